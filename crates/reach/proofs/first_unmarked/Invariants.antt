-- `reach::first_unmarked` meets its contract. The loop's invariant: the joints passed are marked.
-- The measure is what is left of the joints.
-- Assumes nothing.
use Prim.Native.Nat.{ℕ, ◌-◌, ◌≤◌, ◌<◌}
use Rattle.reach.specs.Marking.{Marked}
use Rattle.reach.proofs.first_unmarked.Given as goal

abbrev pub invariant-loop-j : goal.invariant-loop-j
invariant-loop-j l = (l.j ≤ l.joints) × ((k : ℕ) → k < l.j → Marked l.marks.0 k)

abbrev pub decreases-loop-j : goal.decreases-loop-j
decreases-loop-j l = l.joints - l.j
