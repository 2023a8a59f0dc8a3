-- `masks::masks` meets its contract: n / 8 times eight kinds, and those behind them.
-- Assumes nothing.
use mathlib.Core.Path.{◌≡◌}
use Prim.Native.Nat.{◌-◌, ◌/◌}
use lib.ListN.{length}
use Rattle.masks.proofs.masks.Given as goal

abbrev pub invariant-loop-k : goal.invariant-loop-k
invariant-loop-k l = (l.k-end ≡ l.table.n / 8) × (length l.all ≡ 64)

abbrev pub decreases-loop-k : goal.decreases-loop-k
decreases-loop-k l = l.k-end - l.k
