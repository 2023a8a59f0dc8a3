-- `scripts::flat_table` meets its contract. At p, the entries below p are stored.
-- Assumes nothing.
use Prim.Native.Nat.{◌≤◌}
use Rattle.runs.proofs.Loops.{Filling}
use Rattle.scripts.specs.Rooms.{flat_table}
use Rattle.scripts.proofs.flat_table.Given as goal

abbrev pub invariant-loop-p : goal.invariant-loop-p
invariant-loop-p l = (l.p ≤ 5253) × Filling (flat_table l.n) 5253 l.p l.table
