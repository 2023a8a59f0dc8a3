-- `none_in_both` meets its contract: as long as nothing is gathered, no link so far is known in both.
-- Assumes nothing.
use mathlib.Core.Path.{◌≡◌}
use mathlib.Core.Bool.{false}
use Prim.Native.Nat.{ℕ, ◌<◌, ◌≤◌}
use lib.ListN.{get_or}
use Rattle.solver.specs.Steps.{both_known}
use Rattle.solver.proofs.none_in_both.Given as goal

abbrev pub invariant-loop-l : goal.invariant-loop-l
invariant-loop-l l = (l.l ≤ 16) × (l.any ≡ false → (k : ℕ) → k < l.l → both_known (get_or l.x k 0) (get_or l.y k 0) ≡ false)
