-- What is asked of a table before its entries are read, and of its entries before they are read as kinds. No exported contract rests on these.
-- Assumes nothing.
use Rattle.std.specs.Prelude.{◌≡◌, List, ℕ, ◌*◌, ◌≤◌, ◌<◌, length, get_or}

-- a table of n kinds, 2 to 64 of them, has n × n bytes
pub record Sized (n : ℕ) (table : List ℕ) : Type 0 where
  pub low : 2 ≤ n
  pub high : n ≤ 64
  pub size : length table ≡ n * n

-- every entry is a kind
abbrev pub AllKinds : ℕ → List ℕ → Type 0
AllKinds n table = (p : ℕ) → p < n * n → get_or table p 0 < n
