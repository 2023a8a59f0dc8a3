-- `tables::first_pair` meets its contract. At i, j, the reply is that to the pairs of i from j on, and then to those of the kinds after i.
-- Assumes nothing.
use mathlib.Core.List.{[], ◌∷◌, ◌++◌}
use Prim.Native.Nat.{◌+◌, ◌≤◌}
use Rattle.tables.specs.Check.{Law, for_each, pairs, breach_of}
use Rattle.tables.proofs.Scan.{Loop, rest}
use Rattle.tables.proofs.first_pair.Given as goal

abbrev pub invariant-loop-j : goal.invariant-loop-j
invariant-loop-j l = (l.j ≤ l.n)
    × Loop l.n l.kinds.table.entries.now (breach_of l.kinds.table pairs) (λ b. Law.swap l.i b ∷ []) l.j l.n
    (rest (λ a. for_each l.n (λ b. Law.swap a b ∷ [])) (l.i + 1) l.n ++ [])

abbrev pub invariant-loop-i : goal.invariant-loop-i
invariant-loop-i l = (l.i ≤ l.n) × Loop l.n l.kinds.table.entries.now (breach_of l.kinds.table pairs) (λ a. for_each l.n (λ b. Law.swap a b ∷ [])) l.i l.n []
