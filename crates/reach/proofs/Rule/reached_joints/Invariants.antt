-- `reach::Rule::reached_joints` meets its contract. The loop's invariant: the rows of the followed joints are marked, and only reached joints are.
-- The measure is what the number of the followed joints lacks of 2 ^ 32: it has one bit more at each turn.
-- Assumes nothing.
use Prim.Native.Nat.{◌-◌, ◌^◌}
use Rattle.reach.proofs.Marking.{Following}
use Rattle.reach.proofs.Rule.reached_joints.Given as goal

abbrev pub invariant-loop-to : goal.invariant-loop-to
invariant-loop-to l = Following l.self l.to l.marks.0 l.followed.0

abbrev pub decreases-loop-to : goal.decreases-loop-to
decreases-loop-to l = 2 ^ 32 - l.followed.0
