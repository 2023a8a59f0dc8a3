-- `scripts::put` meets its contract. At i, the bytes of the call below i are put.
-- Assumes nothing.
use mathlib.Core.Path.{◌≡◌}
use Prim.Native.Nat.{◌-◌, ◌≤◌}
use Rattle.scripts.specs.Rooms.{put_first}
use Rattle.scripts.proofs.put.Given as goal

abbrev pub invariant-loop-i : goal.invariant-loop-i
invariant-loop-i g l = (2 ≤ l.i) × (l.i-end ≤ 5252) × (l.i - 2 ≤ l.i-end - 2) × (l.next ≡ put_first l.bytes.room l.initial.next (l.i - 2))
