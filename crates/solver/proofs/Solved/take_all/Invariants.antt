-- `take_all` meets its contract: at i, the form at hand is what the first i facts make of the first form.
-- Assumes nothing.
use Prim.Native.Nat.{◌≤◌}
use Rattle.solver.specs.Unpacked.{form_of, Gives}
use Rattle.solver.proofs.Folding.{Turning}
use Rattle.solver.proofs.Solved.take_all.Given as goal

abbrev pub invariant-loop-i : goal.invariant-loop-i
invariant-loop-i g l = (l.i ≤ l.count)
    × Turning l.table.n l.table.entries.now l.v (form_of l.initial.self l.initial.rows) (Gives (goal.F-post g l.fact) l.count) l.i (form_of l.self l.rows) l.self.top
