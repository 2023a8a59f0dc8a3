-- `classes_in` meets its contract: at each turn the count is that of the nodes so far.
-- Assumes nothing.
use mathlib.Core.Path.{◌≡◌}
use mathlib.Core.List.{List}
use Prim.Native.Nat.{ℕ, ◌≤◌}
use Rattle.meaning.specs.Form.{list_form, classes}
use Rattle.solver.proofs.classes_in.Given as goal

abbrev pub invariant-loop-j : goal.invariant-loop-j
invariant-loop-j l = (l.j ≤ l.v) × ((kind rows : List ℕ) → l.count ≡ classes (list_form l.class kind rows) l.j)
