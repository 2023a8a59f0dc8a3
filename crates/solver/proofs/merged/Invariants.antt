-- `merged` meets its contract: the loop fills the row place by place.
-- Assumes nothing.
use mathlib.Core.Path.{◌≡◌}
use Prim.Native.Nat.{◌≤◌}
use lib.ListN.{length, get_or}
use Rattle.solver.specs.Steps.{known_of}
use Rattle.solver.proofs.Fill.{Filled}
use Rattle.solver.proofs.merged.Given as goal

abbrev pub invariant-loop-l : goal.invariant-loop-l
invariant-loop-l l = (l.l ≤ 16) × (length l.initial.row ≡ 16) × Filled (λ k. known_of (get_or l.x k 0) (get_or l.y k 0)) 0 l.l l.initial.row l.row
