-- Kinds: what the meet of a table is, and when one kind is under another.
-- Assumes nothing.
use Rattle.std.specs.Prelude.{◌≡◌, List, ℕ, ◌+◌, ◌*◌, get_or}

-- meet(i,j) stands at i × n + j
abbrev pub meet_at : ℕ → List ℕ → ℕ → ℕ → ℕ
meet_at n table i j = get_or table (i * n + j) 0

-- s is under t exactly when meet(s,t) = s
abbrev pub Under : (ℕ → ℕ → ℕ) → ℕ → ℕ → Type 0
Under meet s t = meet s t ≡ s
