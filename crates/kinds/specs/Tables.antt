-- The meet of a table that is passed on with its number of kinds.
-- Assumes nothing.
use Rattle.std.specs.Prelude.{ℕ}
use Rattle.kinds.specs.Kinds.{meet_at}
use Rattle.kinds.specs.declared.Table.{Table}

abbrev pub meet_of : Table → ℕ → ℕ → ℕ
meet_of t = meet_at t.n t.entries.now
