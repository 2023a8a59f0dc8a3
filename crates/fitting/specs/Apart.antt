-- What the fast look at the session's own bytes tells, where no two of v joints are joined. No exported contract rests on this.
-- Assumes nothing.
use Rattle.std.specs.Prelude.{◌≡◌, ℕ, ◌+◌, ◌%◌, ◌<◌, ◌≤◌, ◌⊎◌, List, length, slice_index}
use Rattle.meaning.specs.Form.{Form, unknown}

-- no byte of a run is above r once `more` is added to it, by bytes: 255 is followed by 0
pub record AtMost (more r : ℕ) (xs : List ℕ) : Type 0 where
  pub byte : (i : ℕ) → i < length xs → slice_index xs i < 256
  pub below : (i : ℕ) → i < length xs → (slice_index xs i + more) % 256 ≤ r

-- each joint is a class of its own; what is no joint has class 0
pub record ClassesApart (v : ℕ) (S : Form) : Type 0 where
  pub own : (j : ℕ) → j < v → S.class j ≡ j
  pub rest : (j : ℕ) → v ≤ j → S.class j ≡ 0

-- each joint has a kind from 1 to n - 1; what is no joint has kind 0
pub record KindsApart (n v : ℕ) (S : Form) : Type 0 where
  pub low : (j : ℕ) → j < v → 1 ≤ S.kind j
  pub high : (j : ℕ) → j < v → S.kind j < n
  pub rest : (j : ℕ) → v ≤ j → S.kind j ≡ 0

-- each link of a joint is not known or leads to a joint; what is no joint has a zero row
pub record LinksApart (v : ℕ) (S : Form) : Type 0 where
  pub end : (j l : ℕ) → j < v → l < 16 → (S.link j l ≡ unknown) ⊎ (S.link j l < v)
  pub rest : (j l : ℕ) → v ≤ j → l < 16 → S.link j l ≡ 0
