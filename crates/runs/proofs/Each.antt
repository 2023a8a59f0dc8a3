-- A list made of a function: its first and its last element, its length, the element at a place, its members, and the list under a map.
-- Assumes nothing.
use mathlib.Core.Path.{◌≡◌, refl, ap, ◌∙◌}
use mathlib.Core.Logic.{⊎_elim}
use mathlib.Core.List.Memᴰ
use mathlib.Core.List.{List, [], ◌∷◌, ◌++◌, map, Memᴰ}
use Prim.Native.Nat.{ℕ, zero, suc, ◌+◌, ◌-◌, ◌≤◌, ◌<◌}
use native.Mathlib.Omega.{arith}
use native.Mathlib.Numerals.{add-one}
use native.Mathlib.Nat.{not-suc-le-zero, le_of_suc-le-suc, add-zero}
use lib.ListN.{length, get_or, take}
use Rattle.runs.specs.Runs.{each}

-- a loop at i of m: what is left begins with f i, or is nothing
module _ {A : Type 0} (f : ℕ → A) {i m : ℕ} where
  pub each_step : i < m → each f i (m - i) ≡ f i ∷ each f (i + 1) (m - (i + 1))
  unfolding each
  each_step h = let e : m - i ≡ suc (m - (i + 1)) = omega arith in rw (e, add-one)

  pub each_end : m ≤ i → each f i (m - i) ≡ []
  unfolding each
  each_end h = let e : m - i ≡ 0 = omega arith in rw e

-- one more of them
pub each_more : {A : Type 0} (f : ℕ → A) (i count : ℕ) → each f i (suc count) ≡ each f i count ++ (f (i + count) ∷ [])
unfolding each
each_more f i zero = ap (λ (k : ℕ). f k ∷ []) (omega arith)
each_more f i (suc count) =
    ap (◌∷◌ (f i)) (each_more f (suc i) count ∙ ap (λ (k : ℕ). each f (suc i) count ++ (f k ∷ [])) (omega arith))

pub each_map : {A B : Type 0} (g : A → B) (f : ℕ → A) (i count : ℕ) → map g (each f i count) ≡ each (λ k. g (f k)) i count
unfolding each
each_map g f i zero = refl
each_map {B = B} g f i (suc count) = ap (λ (l : List B). g (f i) ∷ l) (each_map g f (suc i) count)

pub each_length : {A : Type 0} (f : ℕ → A) (i count : ℕ) → length (each f i count) ≡ count
unfolding each
each_length f i zero = refl
each_length f i (suc count) = ap suc (each_length f (suc i) count)

each_from : (f : ℕ → ℕ) (i count k : ℕ) → k < count → get_or (each f i count) k 0 ≡ f (i + k)
unfolding each
each_from f i zero k h = absurd (not-suc-le-zero h)
each_from f i (suc count) zero h = ap f (omega arith)
each_from f i (suc count) (suc k) h = each_from f (suc i) count k (le_of_suc-le-suc h) ∙ ap f (omega arith)

pub each_at : (f : ℕ → ℕ) (count k : ℕ) → k < count → get_or (each f 0 count) k 0 ≡ f k
each_at f count k h = each_from f 0 count k h ∙ ap f (omega arith)

-- the first k of them
pub each_take : {A : Type 0} (f : ℕ → A) (i k count : ℕ) → k ≤ count → take k (each f i count) ≡ each f i k
unfolding each
each_take f i zero count h = refl
each_take f i (suc k) zero h = absurd (not-suc-le-zero h)
each_take f i (suc k) (suc count) h = ap (◌∷◌ (f i)) (each_take f (suc i) k count (le_of_suc-le-suc h))

-- a member is one of them
pub record Among {A : Type 0} (f : ℕ → A) (i count : ℕ) (x : A) : Type 0 where
  pub at : ℕ
  pub from : i ≤ at
  pub below : at < i + count
  pub is : x ≡ f at

pub among : {A : Type 0} (f : ℕ → A) (i count : ℕ) {x : A} → Memᴰ x (each f i count) → Among f i count x
unfolding each
among f i zero m = absurd (Memᴰ.not-nil m)
among f i (suc count) m =
    ⊎_elim (λ e. record { at = i; from = omega arith; below = omega arith; is = e })
    (λ t. let r = among f (suc i) count t in record { at = r.at; from = omega arith; below = omega arith; is = r.is })
    (Memᴰ.cases_cons m)

-- the k-th is a member
pub member : {A : Type 0} (f : ℕ → A) (i count k : ℕ) → k < count → Memᴰ (f (i + k)) (each f i count)
unfolding each
member f i zero k h = absurd (not-suc-le-zero h)
member f i (suc count) zero h = Memᴰ.head (ap f (add-zero i))
member f i (suc count) (suc k) h =
    Memᴰ.cast (ap f (omega arith)) (Memᴰ.tail (member f (suc i) count k (le_of_suc-le-suc h)))
