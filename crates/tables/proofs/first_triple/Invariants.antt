-- `tables::first_triple` meets its contract. At i, j, k, the reply is that to the triples to look at of i, j from k on, then to those of i after
-- j, then to those after i.
-- Assumes nothing.
use mathlib.Core.Path.{◌≡◌}
use mathlib.Core.List.{[], ◌++◌}
use Prim.Native.Nat.{◌+◌, ◌<◌, ◌≤◌}
use Rattle.tables.specs.Check.{breach_of}
use Rattle.tables.specs.Triples.{to_look_at, triples_meant}
use Rattle.tables.proofs.Scan.{Loop, rest}
use Rattle.tables.proofs.LookedAt.{with_first, with_middle, with_last}
use Rattle.tables.proofs.first_triple.Given as goal

abbrev pub invariant-loop-k : goal.invariant-loop-k
invariant-loop-k l = (l.i < l.k)
    × Loop l.n l.kinds.table.entries.now (breach_of l.kinds.table (triples_meant to_look_at)) (with_last l.i l.j) l.k l.n
    (rest (with_middle l.n l.i) (l.j + 1) l.n ++ (rest (with_first l.n) (l.i + 1) l.n ++ []))

abbrev pub invariant-loop-j : goal.invariant-loop-j
invariant-loop-j l = (2 ≤ l.j)
    × Loop l.n l.kinds.table.entries.now (breach_of l.kinds.table (triples_meant to_look_at)) (with_middle l.n l.i) l.j l.n (rest (with_first l.n) (l.i + 1) l.n ++ [])

abbrev pub invariant-loop-i : goal.invariant-loop-i
invariant-loop-i l = (2 ≤ l.i) × (l.i-end + 1 ≡ l.n) × Loop l.n l.kinds.table.entries.now (breach_of l.kinds.table (triples_meant to_look_at)) (with_first l.n) l.i l.n []
