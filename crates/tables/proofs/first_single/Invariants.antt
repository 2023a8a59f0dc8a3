-- `tables::first_single` meets its contract. At i, the reply is that to the laws of the kinds from i on.
-- Assumes nothing.
use mathlib.Core.List.{[], ◌∷◌}
use Prim.Native.Nat.{◌≤◌}
use Rattle.tables.specs.Check.{Law, singles, breach_of}
use Rattle.tables.proofs.Scan.{Loop}
use Rattle.tables.proofs.first_single.Given as goal

abbrev pub invariant-loop-i : goal.invariant-loop-i
invariant-loop-i l = (l.i ≤ l.kinds.table.n) × Loop l.kinds.table.n l.kinds.table.entries.now (breach_of l.kinds.table singles) (λ k. Law.self k ∷ Law.none k ∷ Law.any k ∷ []) l.i l.kinds.table.n []
