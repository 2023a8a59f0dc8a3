-- `masks::add_eight` meets its contract: eight entries from 8 × k on lie inside each row.
-- Assumes nothing.
use mathlib.Core.Path.{◌≡◌}
use Prim.Native.Nat.{◌-◌}
use lib.ListN.{length}
use Rattle.masks.proofs.add_eight.Given as goal

abbrev pub invariant-loop-i : goal.invariant-loop-i
invariant-loop-i l = length l.all ≡ 64

abbrev pub decreases-loop-i : goal.decreases-loop-i
decreases-loop-i l = l.table.n - l.i
