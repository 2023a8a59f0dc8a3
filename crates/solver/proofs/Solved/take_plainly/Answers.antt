-- `take_plainly` meets its contract, arm by arm.
-- Assumes nothing.
use mathlib.Core.Path.{ap, sym, ◌∙◌}
use mathlib.Core.Bool.{true≢false}
use native.Mathlib.Omega.{arith}
use Rattle.meaning.specs.Form.{list_form}
use Rattle.solver.specs.Unpacked.{Lent}
use Rattle.solver.proofs.OneFact.{kind_takes, link_takes, known_takes, named_put}
use borrow.Author.Rules.{rules}
use Rattle.solver.proofs.Solved.take_plainly.Goals as goal

pub returns-then-self-c : goal.returns-then-self-c
returns-then-self-c c =
    let r = rw c.in-Link.is at c.requires.lent in
    let d = c.requires.ready.0 in
    let k : Lent c.args.self.now.class c.args.self.now.kind c.args.rows.now = record { class_size = search rules; kind_size = search rules; rows_sized = search rules } in
    let m = rw c.if-put_link.true at c.put_link.ensures in
    let test = c.if-self-c.true in (
      record { taken = λ _. rw c.in-Link.is (link_takes d k r.0 r.1 r.2 m); kept = λ e. absurd (true≢false e) },
      named_put d k r.0 r.1 m (omega (arith, test)) (omega (arith, test)) c.requires.ready.1,
    )

pub returns-else-self-c : goal.returns-else-self-c
returns-else-self-c c =
    let r = rw c.in-Link.is at c.requires.lent in
    let d = c.requires.ready.0 in
    let k : Lent c.args.self.now.class c.args.self.now.kind c.args.rows.now = record { class_size = search rules; kind_size = search rules; rows_sized = search rules } in
    let m = rw c.if-put_link.true at c.put_link.ensures in
    let test = c.if-self-c.false in (
      record { taken = λ _. rw c.in-Link.is (link_takes d k r.0 r.1 r.2 m); kept = λ e. absurd (true≢false e) },
      named_put d k r.0 r.1 m (omega (arith, test)) (omega (arith, test)) c.requires.ready.1,
    )

pub returns-in-Kind : goal.returns-in-Kind
returns-in-Kind c =
    let r = rw c.in-Kind.is at c.requires.lent in
    let d = c.requires.ready.0 in
    let k : Lent c.args.self.now.class c.args.self.now.kind c.args.rows.now = record { class_size = search rules; kind_size = search rules; rows_sized = search rules } in
    let m = c.met_kind.ensures in
    let a = c.is_ok.ensures.value in (
      record {
        taken = λ e. rw c.in-Kind.is (kind_takes d k r.0 r.1 m (sym a ∙ e));
        kept = λ e. ap (λ i. list_form c.args.self.now.class i c.args.rows.now) (m.none (sym a ∙ e)).1;
      },
      record { some = c.requires.ready.1.some; below = c.requires.ready.1.below },
    )

pub returns-else-end-c : goal.returns-else-end-c
returns-else-end-c c =
    let r = rw c.in-Link.is at c.requires.lent in
    let d = c.requires.ready.0 in
    let k : Lent c.args.self.now.class c.args.self.now.kind c.args.rows.now = record { class_size = search rules; kind_size = search rules; rows_sized = search rules } in
    let p = c.put_link.ensures.known c.if-put_link.false in
    let e = rw p.1 at c.end_of-end.ensures in
    let m = c.made_one-in-Link.ensures in
    let t = rw (p.1, e) at m.0 in
    (record { taken = λ q. rw c.in-Link.is (known_takes d k r.0 r.1 p.0 (t.taken q)); kept = λ q. t.kept q }, m.1)
