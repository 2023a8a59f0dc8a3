-- `pushed` meets its contract: one link more at each turn of the loop.
-- Assumes nothing.
use mathlib.Core.Path.{◌≡◌}
use Prim.Native.Nat.{◌≤◌}
use lib.ListN.{length, get_or}
use Rattle.solver.specs.Steps.{Pushed}
use Rattle.solver.proofs.pushed.Given as goal

abbrev pub invariant-loop-l : goal.invariant-loop-l
invariant-loop-l l = (l.l ≤ 16) × (length l.pairs ≡ length l.initial.pairs)
    × Pushed l.l (λ k. get_or l.x k 0) (λ k. get_or l.y k 0) l.initial.pairs l.size l.pairs l.count
