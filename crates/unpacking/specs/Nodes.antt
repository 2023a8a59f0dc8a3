-- The bytes of an unpacked form: the session's own, and behind them those of free nodes. No call of a session cites these.
-- Assumes nothing.
use Rattle.std.specs.Prelude.{◌≡◌, List, ℕ, ◌<◌, ◌≤◌, length, get_or}

-- t is as long as s, and has the bytes of part below old, the free nodes' from there on below all, and else the bytes of s
pub record Nodes (part : List ℕ) (old all : ℕ) (free : ℕ → ℕ) (s t : List ℕ) : Type 0 where
  pub size : length t ≡ length s
  pub old_at : (i : ℕ) → i < old → get_or t i 0 ≡ get_or part i 0
  pub new_at : (i : ℕ) → old ≤ i → i < all → get_or t i 0 ≡ free i
  pub rest : (i : ℕ) → all ≤ i → get_or t i 0 ≡ get_or s i 0
