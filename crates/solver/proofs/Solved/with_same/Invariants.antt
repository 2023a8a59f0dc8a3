-- `with_same` meets its contract: the form and the pairs mean, at each turn, what the first form and the fact do.
-- Assumes nothing.
use mathlib.Core.Path.{◌≡◌}
use mathlib.Core.List.{[], ◌∷◌}
use Prim.Native.Nat.{◌+◌, ◌*◌}
use lib.ListN.{length}
use Rattle.kinds.specs.Tables.{meet_of}
use Rattle.meaning.specs.Picture.Fact.{same}
use Rattle.meaning.specs.Form.{classes}
use Rattle.solver.specs.Unpacked.{form_of, rows_size}
use Rattle.solver.specs.Steps.{Running}
use Rattle.solver.proofs.Solved.with_same.Given as goal

abbrev pub invariant-loop-size : goal.invariant-loop-size
invariant-loop-size l = (length l.pairs ≡ 1552) × (length l.self.class ≡ 96) × (length l.self.kind ≡ 96) × (length l.rows ≡ rows_size)
    × Running l.table.n (meet_of l.table) l.v (form_of l.initial.self l.initial.rows) (same l.x l.y ∷ []) (form_of l.self l.rows) l.pairs l.size

abbrev pub decreases-loop-size : goal.decreases-loop-size
decreases-loop-size l = 17 * classes (form_of l.self l.rows) l.v + l.size
