-- `term_writing::write` meets its contract: the reply to the block where it refuses, the root's range, and the well-formed case.
-- Assumes nothing.
use Rattle.std.proofs.Common.{◌≡◌, ℕ, List, ◌<◌, ◌≤◌, refl, sym, ap, ◌∙◌, arith}
use Rattle.std.proofs.lemmas.Result.{err_from_is_err_and}
use Rattle.replies.specs.Replies.{refuses}
use Rattle.replies.proofs.Laws.{stopped, handed_back}
use Rattle.joints.specs.Layout.{joints_of}
use Rattle.term_writing.specs.WriteTerm.{written_text}
use Rattle.term_writing.specs.WriteTerm.WriteTerm.{refused}
use Rattle.term_writing.proofs.Writes.{block_refused, root_refused, no_tree_told, tree_told}
use Rattle.term_writing.proofs.write.Goals as goal

pub returns-in_err-of : goal.returns-in_err-of
returns-in_err-of c =
    let r = stopped refl c.in_err-of.ensures in
    let told = block_refused c.args.block.now c.args.root r in
    refused (ap refuses (sym told) ∙ r) (handed_back refl c.in_err-of.ensures c.from_residual.ensures.1 ∙ told) refl

pub returns-then-root-from : goal.returns-then-root-from
returns-then-root-from c =
    let a = c.args in
    let same : c.session-session.result ≡ a.block.now = c.session-session.ensures ∙ c.in_ok-of.ensures.0 in
    let behind : joints_of a.block.now ≤ a.root = omega (arith, c.from.ensures, c.joint_count.ensures, ap joints_of same, c.if-root-from.true) in
    let told = root_refused a.block.now a.root (ap refuses c.in_ok-of.ensures.1) behind in
    refused (ap refuses (sym told)) told refl

pub returns-in_err-end : goal.returns-in_err-end
returns-in_err-end c =
    let a = c.args in
    let same : c.session-session.result ≡ a.block.now = c.session-session.ensures ∙ c.in_ok-of.ensures.0 in
    let inside : a.root < joints_of a.block.now = omega (arith, c.from.ensures, c.joint_count.ensures, ap joints_of same, c.if-root-from.false) in
    let made = err_from_is_err_and c.from_residual-in_err-end.result c.from_residual-in_err-end.ensures.1 in
    no_tree_told a.block.now a.root c.in_ok-of.ensures.1 inside (rw same at c.in_err-end.ensures) (made.1 ∙ made.2)

pub returns : goal.returns
returns c =
    let a = c.args in
    let same : c.session-session.result ≡ a.block.now = c.session-session.ensures ∙ c.in_ok-of.ensures.0 in
    let inside : a.root < joints_of a.block.now = omega (arith, c.from.ensures, c.joint_count.ensures, ap joints_of same, c.if-root-from.false) in
    let found = c.in_ok-end.ensures in
    tree_told a.block.now a.root c.in_ok-of.ensures.1 inside c.put_tree.new.text c.in_ok-end.end (rw same at found.0) (found.2 ∙ ap (λ (b : List ℕ). written_text b a.root) same)
    c.put_out.ensures.0 c.put_out.ensures.1
