-- `unpacking::put_classes` meets its contract: one run is put, and the places behind it are numbered one by one.
-- Assumes nothing.
use Prim.Native.Nat.{◌≤◌}
use Rattle.solver.proofs.Fill.{Filled}
use Rattle.unpacking.proofs.put_classes.Given as goal

abbrev pub invariant-loop-j : goal.invariant-loop-j
invariant-loop-j l = (l.old ≤ l.j) × (l.j ≤ l.all) × Filled (λ i. i) l.old l.j l.initial.to l.to
