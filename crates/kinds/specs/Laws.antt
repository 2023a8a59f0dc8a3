-- The laws of a kind table, and what the greatest of the kinds under two is. The reply of the check says each law for itself; these are what
-- the theorems say of a table that passes.
-- Assumes nothing.
use Rattle.std.specs.Prelude.{◌≡◌, ℕ, ◌<◌}

abbrev pub Commutes : ℕ → (ℕ → ℕ → ℕ) → Type 0
Commutes n meet = (i j : ℕ) → i < n → j < n → meet i j ≡ meet j i

abbrev pub Associates : ℕ → (ℕ → ℕ → ℕ) → Type 0
Associates n meet = (i j k : ℕ) → i < n → j < n → k < n → meet (meet i j) k ≡ meet i (meet j k)

-- the laws of a table of n kinds, where kind 0 is "none" and kind 1 is "any"
pub record Lawful (n : ℕ) (meet : ℕ → ℕ → ℕ) : Type 0 where
  pub closed : (i j : ℕ) → i < n → j < n → meet i j < n
  pub self : (i : ℕ) → i < n → meet i i ≡ i
  pub none : (i : ℕ) → i < n → meet 0 i ≡ 0
  pub any : (i : ℕ) → i < n → meet 1 i ≡ i
  pub swap : Commutes n meet
  pub group : Associates n meet

-- m is the greatest of the kinds 0 to n - 1 that are under both i and j, by an order R
pub record Greatest (n : ℕ) (R : ℕ → ℕ → Type 0) (i j m : ℕ) : Type 0 where
  pub kind : m < n
  pub left : R m i
  pub right : R m j
  pub most : (k : ℕ) → k < n → R k i → R k j → R k m
