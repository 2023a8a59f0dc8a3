-- 'Meaning': pictures, placings, the three facts, and what it is for them to hold.
-- Assumes nothing.
use Rattle.std.specs.Prelude.{◌≡◌, ◌≢◌, List, [], ◌∷◌, ℕ, ◌<◌, ◌≤◌}
use Rattle.kinds.specs.Kinds.{Under}

-- A finite, non-empty set of elements, each with a kind other than 0, and for each link a partial map from elements to elements.
-- The elements are the numbers whose kind is not 0; from size on there are none.
-- Link l is defined at e exactly when `link e l` is an element, and leads there.
pub record Picture (n : ℕ) : Type 0 where
  pub size : ℕ
  pub kind : ℕ → ℕ
  pub link : ℕ → ℕ → ℕ
  pub in_range : (e : ℕ) → kind e < n
  pub finite : (e : ℕ) → size ≤ e → kind e ≡ 0
  pub some : ℕ
  pub not_empty : kind some ≢ 0

abbrev pub Element : {n : ℕ} → Picture n → ℕ → Type 0
Element P e = P.kind e ≢ 0

-- a placing gives every joint an element
abbrev pub Placing : {n : ℕ} {J : Type 0} → Picture n → (J → ℕ) → Type 0
Placing {J = J} P σ = (j : J) → Element P (σ j)

-- a fact on joints of the type J
pub data Fact (J : Type 0) : Type 0 where
  -- a has kind s
  has_kind : J → ℕ → Fact J
  -- a is b
  same : J → J → Fact J
  -- a.l is c
  leads : J → ℕ → J → Fact J

module _ {n : ℕ} {J : Type 0} (meet : ℕ → ℕ → ℕ) (P : Picture n) (σ : J → ℕ) where
  -- Asked together with a placing, which gives c an element: so the last clause says that the link is defined, too.
  abbrev pub Holds : Fact J → Type 0
  Holds (has_kind a s) = Under meet (P.kind (σ a)) s
  Holds (same a b) = σ a ≡ σ b
  Holds (leads a l c) = P.link (σ a) l ≡ σ c

  abbrev pub All : List (Fact J) → Type 0
  All [] = Unit {0}
  All (f ∷ fs) = Holds f × All fs

-- the same fact, its joints under other names
abbrev pub rename : {J K : Type 0} → (J → K) → Fact J → Fact K
rename f (has_kind a s) = has_kind (f a) s
rename f (same a b) = same (f a) (f b)
rename f (leads a l c) = leads (f a) l (f c)
