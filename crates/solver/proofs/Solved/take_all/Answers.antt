-- `take_all` meets its contract: each turn takes a fact plainly, and where that says no wholly.
-- Assumes nothing.
use mathlib.Core.Path.{◌≡◌, sym, ◌∙◌}
use native.Mathlib.Omega.{arith}
use Rattle.solver.proofs.Takes.{refuted_of, taken_of, on_ok}
use Rattle.solver.proofs.OneFact.{some_node, well_named}
use Rattle.solver.proofs.Folding.{turn_begins, turn_taken, turn_stops}
use Rattle.solver.proofs.Solved.take_all.Goals as goal

pub loop-i-init : goal.loop-i-init
loop-i-init g c = (omega arith, turn_begins _ c.requires.ready.0 c.requires.ready.1)

pub loop-i-preserved-then-take_plainly : goal.loop-i-preserved-then-take_plainly
loop-i-preserved-then-take_plainly g c =
    let i = c.loop-i.invariant in
    let p = c.take_plainly.ensures in (
      omega arith,
      turn_taken i.1 (λ facts given. given _ _ c.loop-i-test.true c.fact-next.ensures) (p.0.taken c.if-take_plainly.true) p.1,
    )

pub returns-then-is_err-clause-folded : goal.returns-then-is_err-clause-folded
returns-then-is_err-clause-folded g c =
    let clash = refuted_of _ c.take_wholly.result _ (sym c.is_err.ensures.value ∙ c.if-is_err.true) c.take_wholly.ensures.0 in
    turn_stops c.loop-i.invariant.1 (λ facts given. given _ _ c.loop-i-test.true c.fact-next.ensures) c.loop-i-test.true
    (rw (c.take_plainly.ensures.0.kept c.if-take_plainly.false) at clash)

pub loop-i-preserved : goal.loop-i-preserved
loop-i-preserved g c =
    let i = c.loop-i.invariant in
    let ok = sym c.is_err.ensures.value ∙ c.if-is_err.false in
    let next = taken_of _ c.take_wholly.result _ ok c.take_wholly.ensures.0 in
    let in_range = c.requires.in_range _ _ c.loop-i-test.true c.fact-next.ensures in (
      omega arith,
      turn_taken i.1 (λ facts given. given _ _ c.loop-i-test.true c.fact-next.ensures)
          (rw (c.take_plainly.ensures.0.kept c.if-take_plainly.false) at next)
          (rw (on_ok c.take_wholly.result ok c.take_wholly.ensures.1) (well_named (some_node c.args.table.n c.args.v _ in_range) next.well)),
    )

pub returns-clause-folded : goal.returns-clause-folded
returns-clause-folded g c =
    let e : c.loop-i.i ≡ c.args.count = omega (arith, c.loop-i.invariant.0, c.loop-i-test.false) in
    λ facts given. rw e at (c.loop-i.invariant.1.taken facts given)
