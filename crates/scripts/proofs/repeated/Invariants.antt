-- `scripts::repeated` meets its contract. At i, the bytes of the facts below i are put.
-- Assumes nothing.
use mathlib.Core.Path.{◌≡◌}
use Prim.Native.Nat.{◌-◌, ◌*◌, ◌≤◌}
use Rattle.scripts.specs.Scripts.{repeated_facts}
use Rattle.scripts.proofs.repeated.Given as goal

abbrev pub invariant-loop-i : goal.invariant-loop-i
invariant-loop-i l = (4 ≤ l.i) × (l.i-end ≡ 4 * l.count) × (l.i - 4 ≤ l.i-end - 4) × (l.next ≡ repeated_facts l.room l.base (l.i - 4))
