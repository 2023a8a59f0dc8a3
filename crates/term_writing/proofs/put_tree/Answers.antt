-- `term_writing::put_tree` meets its contract: joints that are joined, what the visit found, what it missed, or the text.
-- Assumes nothing.
use Rattle.std.proofs.Common.{Bool, false, ◌∙◌, arith}
use lib.ListN.{length-replicate}
use Rattle.std.proofs.lemmas.Result.{MatchResult-from_err}
use Rattle.term_writing.proofs.Writes.{none_marked, all_unmarked, good, sound, failed_none, missed_none, tree_found}
use Rattle.term_writing.proofs.put_tree.Goals as goal

pub all_apart-requires : goal.all_apart-requires
all_apart-requires c = omega (arith, c.from-v.ensures, c.joint_count.ensures, (good c.args.session.now c.args.root c.requires.0 c.requires.1).well.v_high)

pub visit_term-requires : goal.visit_term-requires
visit_term-requires c =
    let p = c.requires in (
      record {
        sound = sound c.args.session.now c.args.root p.0 p.1 (c.from-v.ensures ∙ c.joint_count.ensures) c.if-not-all_apart.ensures;
        to_size = p.2;
        seen_size = length-replicate {A = Bool} 64 false;
      },
      (p.1, none_marked 64 c.args.root, omega (arith, all_unmarked)),
    )

pub returns-in_err-end : goal.returns-in_err-end
returns-in_err-end c =
    let p = c.requires in
    MatchResult-from_err c.from_residual.result _ _ c.from_residual.ensures.0
    (λ _. failed_none c.args.session.now c.args.root p.0 p.1
    (c.from-v.ensures ∙ c.joint_count.ensures) c.if-not-all_apart.ensures c.in_err-end.ensures)

pub all_accounted-requires : goal.all_accounted-requires
all_accounted-requires c =
    let p = c.requires in (
      c.visit_term.auto.seen,
      omega (arith, c.from-v.ensures, c.joint_count.ensures, (good c.args.session.now c.args.root p.0 p.1).well.v_high),
    )

pub returns-then-not-all_accounted : goal.returns-then-not-all_accounted
returns-then-not-all_accounted c =
    let p = c.requires in
    let missed = c.if-not-all_accounted.ensures in
    missed_none c.args.session.now c.args.root p.0 p.1
    (c.from-v.ensures ∙ c.joint_count.ensures) c.if-not-all_apart.ensures c.in_ok-end.ensures missed.1.0 missed.1.1

pub returns : goal.returns
returns c =
    let p = c.requires in
    tree_found c.args.session.now c.args.root p.0 p.1
    (c.from-v.ensures ∙ c.joint_count.ensures) c.if-not-all_apart.ensures c.in_ok-end.ensures p.2 c.if-not-all_accounted.ensures
