-- `with_fact` meets its contract: the kind stored is the meet, and the fact clashes exactly where that is 0; `with_same` makes two nodes one;
-- a link not known is set, and the end of a known one is made one with y.
-- Assumes nothing.
use mathlib.Core.Path.{refl, ap}
use Rattle.std.specs.Prelude.{is_ok}
use Rattle.std.proofs.lemmas.Result.{MatchResult-from_err}
use Rattle.solver.specs.Unpacked.{Lent}
use Rattle.solver.proofs.OneFact.{kind_takes, kind_refutes, link_takes, known_took}
use Rattle.solver.proofs.Takes.{took_refuted}
use borrow.Author.Rules.{rules}
use Rattle.solver.proofs.Solved.with_fact.Goals as goal

pub returns-in_ok-met_kind-in-Kind : goal.returns-in_ok-met_kind-in-Kind
returns-in_ok-met_kind-in-Kind c =
    let r = rw c.in-Kind.is at c.requires.1 in
    let k : Lent c.args.self.class c.args.self.kind c.args.rows.now = record { class_size = search rules; kind_size = search rules; rows_sized = search rules } in
    (rw c.in-Kind.is (kind_takes c.requires.0 k r.0 r.1 c.met_kind.ensures (ap is_ok c.in_ok-met_kind-in-Kind.was)), refl)

pub returns-in_err-met_kind-in-Kind : goal.returns-in_err-met_kind-in-Kind
returns-in_err-met_kind-in-Kind c =
    let r = rw c.in-Kind.is at c.requires.1 in
    let k : Lent c.args.self.class c.args.self.kind c.args.rows.now = record { class_size = search rules; kind_size = search rules; rows_sized = search rules } in
    let e = c.from_residual.ensures.0 in
    let no = kind_refutes c.requires.0 k r.0 r.1 c.met_kind.ensures (ap is_ok c.in_err-met_kind-in-Kind.was) in
    (rw c.in-Kind.is (took_refuted _ _ _ e no), MatchResult-from_err _ _ _ e (λ _. tt))

pub returns-then-put_link : goal.returns-then-put_link
returns-then-put_link c =
    let r = rw c.in-Link.is at c.requires.1 in
    let k : Lent c.args.self.class c.args.self.kind c.args.rows.now = record { class_size = search rules; kind_size = search rules; rows_sized = search rules } in
    (rw c.in-Link.is (link_takes c.requires.0 k r.0 r.1 r.2 (rw c.if-put_link.true at c.put_link.ensures)), refl)

pub returns-else-put_link : goal.returns-else-put_link
returns-else-put_link c =
    let r = rw c.in-Link.is at c.requires.1 in
    let k : Lent c.args.self.class c.args.self.kind c.args.rows.now = record { class_size = search rules; kind_size = search rules; rows_sized = search rules } in
    let p = c.put_link.ensures.known c.if-put_link.false in
    let t = rw (c.end_of-end.ensures, p.1) at c.with_same-in-Link.ensures.0 in
    (rw c.in-Link.is (known_took c.requires.0 k r.0 r.1 p.0 _ _ _ t), c.with_same-in-Link.ensures.1)
