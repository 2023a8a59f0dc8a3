-- `renumber_all` meets its contract: the loop goes through the places one by one.
-- Assumes nothing.
use lib.ListN.{get_or}
use Rattle.solver.specs.Steps.{renumber}
use Rattle.solver.proofs.Fill.{Filled}
use Rattle.solver.proofs.renumber_all.Given as goal

abbrev pub invariant-loop-x : goal.invariant-loop-x
invariant-loop-x l = Filled (λ k. renumber l.b l.a (get_or l.initial.s k 0)) 0 l.x-index l.initial.s l.s
