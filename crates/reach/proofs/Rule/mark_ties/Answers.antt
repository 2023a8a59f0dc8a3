-- `reach::Rule::mark_ties` meets its contract. The loop's invariant: what is marked is reached, and the ties passed are marked.
-- The measure is what is left of the ties.
-- Assumes nothing.
use mathlib.Core.Path.{ap}
use native.Mathlib.Omega.{arith}
use lib.ListN.{length}
use borrow.Author.Count.{below_more}
use Rattle.reach.proofs.RulePacket.{rule_well, rule_tie}
use Rattle.reach.proofs.Marking.{with_sound, with_keeps, tie_reached}
use Rattle.reach.proofs.Rule.mark_ties.Goals as goal

pub byte_at-j-requires : goal.byte_at-j-requires
byte_at-j-requires c = omega (arith, (rule_well c.self.invariant).whole.ends, ap length c.bytes.ensures)

pub with-marks-requires : goal.with-marks-requires
with-marks-requires c =
    let l = c.loop-i in
    omega (arith, rule_tie c.self.invariant l.i (omega arith), rw c.bytes.ensures at c.byte_at-j.ensures.0)

pub loop-i-preserved : goal.loop-i-preserved
loop-i-preserved c =
    let l = c.loop-i in
    let p = c.self.inside.packet in
    let read = rw c.bytes.ensures at c.byte_at-j.ensures.0 in
    let w = rw read at c.with-marks.ensures in (
      omega arith,
      l.invariant.1,
      with_sound w p (tie_reached p l.i (omega arith)) l.invariant.2,
      below_more _ _ (λ k h. with_keeps w _ (l.invariant.3 k h)) w.here,
    )

pub returns : goal.returns
returns c =
    let l = c.loop-i.invariant in
    rw (← c.self.view_is) (l.2, (λ i h. l.3 i (omega arith)))
