-- `tables::first_entry` meets its contract. At p, the reply is that to the entries from p on.
-- Assumes nothing.
use mathlib.Core.Path.{◌≡◌}
use mathlib.Core.List.{[], ◌∷◌}
use Prim.Native.Nat.{◌*◌, ◌≤◌}
use Rattle.tables.specs.Check.{Law, entries, breach_of}
use Rattle.tables.proofs.Scan.{Loop}
use Rattle.tables.proofs.first_entry.Given as goal

abbrev pub invariant-loop-p : goal.invariant-loop-p
invariant-loop-p l = (l.p ≤ l.p-end) × (l.p-end ≡ l.table.n * l.table.n) × Loop l.table.n l.table.entries.now (breach_of l.table entries) (λ q. Law.entry q ∷ []) l.p (l.table.n * l.table.n) []
