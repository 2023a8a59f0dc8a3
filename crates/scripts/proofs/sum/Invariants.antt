-- `scripts::sum` meets its contract. At i, the bytes below i are in the sum.
-- Assumes nothing.
use mathlib.Core.Path.{◌≡◌}
use Prim.Native.Nat.{◌≤◌}
use Rattle.scripts.specs.Rooms.{sum_of}
use Rattle.scripts.proofs.sum.Given as goal

abbrev pub invariant-loop-i : goal.invariant-loop-i
invariant-loop-i g l = (l.i ≤ l.size) × (l.sum ≡ sum_of l.room l.i)
