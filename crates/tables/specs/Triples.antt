-- The triples that the search for a broken one looks at, and what the first broken one of some triples is. What a table is answered is stated over
-- all triples (`table_reply` in Check.antt). That the first broken one is the same either way is proved in proofs/Triples.antt.
-- Assumes nothing.
use Rattle.std.specs.Prelude.{◌≡◌, ◌≢◌, Bool, true, cond, ◌&&◌, List, [], ◌∷◌, ℕ, ◌<◌, ltb, Ok}
use Rattle.tables.specs.Check.{Law, for_each, entries, singles, pairs, first_breach}

-- the laws that are looked at before the triples hold
pub record EarlierHold (n : ℕ) (table : List ℕ) : Type 0 where
  pub entries_hold : first_breach n table (entries n) ≡ Ok 0
  pub singles_hold : first_breach n table (singles n) ≡ Ok 0
  pub pairs_hold : first_breach n table (pairs n) ≡ Ok 0

-- which triples are meant: all of them, or those "without 0 and 1 whose first is below its last"
abbrev pub every_triple : ℕ → ℕ → ℕ → Bool
every_triple i j k = true

abbrev pub to_look_at : ℕ → ℕ → ℕ → Bool
to_look_at i j k = ltb 1 i && ltb 1 j && ltb 1 k && ltb i k

-- the laws of those that are meant, in the order of the check
unfoldable pub triples_meant : (ℕ → ℕ → ℕ → Bool) → ℕ → List Law
triples_meant meant n = for_each n (λ i. for_each n (λ j. for_each n (λ k. cond (meant i j k) (Law.group i j k ∷ []) [])))

-- (x,y,z) comes before (i,j,k): triples "go by i, then j, then k"
pub data Before (x y z i j k : ℕ) : Type 0 where
  by_first : x < i → Before x y z i j k
  by_second : x ≡ i → y < j → Before x y z i j k
  by_third : x ≡ i → y ≡ j → z < k → Before x y z i j k

-- (i,j,k) is the first of those that are meant that breaks its law
pub record FirstBroken (n : ℕ) (meet : ℕ → ℕ → ℕ) (meant : ℕ → ℕ → ℕ → Bool) (i j k : ℕ) : Type 0 where
  pub kinds : (i < n) × (j < n) × (k < n)
  pub is_meant : meant i j k ≡ true
  pub is_broken : meet (meet i j) k ≢ meet i (meet j k)
  pub earlier_keep :
      (x y z : ℕ) → x < n → y < n → z < n → meant x y z ≡ true → Before x y z i j k → meet (meet x y) z ≡ meet x (meet y z)
