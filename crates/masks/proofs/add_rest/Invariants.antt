-- `masks::add_rest` meets its contract: there is room for 64 masks, and no kind is 64 or more.
-- Assumes nothing.
use mathlib.Core.Path.{◌≡◌}
use Prim.Native.Nat.{◌-◌}
use lib.ListN.{length}
use Rattle.masks.proofs.add_rest.Given as goal

abbrev pub invariant-loop-i : goal.invariant-loop-i
invariant-loop-i l = length l.all ≡ 64

abbrev pub decreases-loop-i : goal.decreases-loop-i
decreases-loop-i l = l.table.n - l.i
