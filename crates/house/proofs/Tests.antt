-- Tests that are computed over a whole table, a list or the numbers below one, and what each tells of its entries.
-- Assumes nothing.
use mathlib.Core.Path.{◌≡◌, refl, ◌∙◌, subst, sym}
use mathlib.Core.Logic.{⊎_elim}
use mathlib.Core.Bool.{Bool, true, false, ◌&&◌, ◌||◌}
use mathlib.Core.List.{List, [], ◌∷◌, Memᴰ}
use Prim.Native.Nat.{ℕ, zero, suc, ◌+◌, ◌<◌}
use native.Mathlib.Nat.{add-zero, zero-add, add-suc, suc-add, le_of_suc-le-suc, not-suc-le-zero, eq-or-lt_of_le}
use lib.Dec.{T}
use lib.ListN.{length, get_or}

pub and_left : (a b : Bool) → T (a && b) → T a
and_left true b t = tt
and_left false b t = t

pub and_right : (a b : Bool) → T (a && b) → T b
and_right true b t = t
and_right false b t = absurd t

pub or_left : (a b : Bool) → T a → T (a || b)
or_left true b t = tt
or_left false b t = absurd t

pub or_right : (a b : Bool) → T b → T (a || b)
or_right true b t = tt
or_right false b t = t

pub or_cases : (a b : Bool) {C : Type 0} → T (a || b) → (T a → C) → (T b → C) → C
or_cases true b t f g = f tt
or_cases false b t f g = g t

abbrev pub implies : Bool → Bool → Bool
implies true b = b
implies false b = true

pub apply : (a b : Bool) → T (implies a b) → T a → T b
apply true b t u = t
apply false b t u = absurd u

-- the test passes at each number below n
abbrev pub all_below : ℕ → (ℕ → Bool) → Bool
all_below zero f = true
all_below (suc n) f = f n && all_below n f

pub below : (n : ℕ) (f : ℕ → Bool) → T (all_below n f) → (k : ℕ) → k < n → T (f k)
below zero f t k h = absurd (not-suc-le-zero h)
below (suc n) f t k h =
    ⊎_elim (λ (e : k ≡ n). subst (λ (m : ℕ). T (f m)) (sym e) (and_left (f n) (all_below n f) t))
    (λ (l : k < n). below n f (and_right (f n) (all_below n f) t) k l) (eq-or-lt_of_le (le_of_suc-le-suc h))

-- the test passes at each entry of the list, or at some entry
abbrev pub all_of : (ℕ → Bool) → List ℕ → Bool
all_of f [] = true
all_of f (x ∷ xs) = f x && all_of f xs

abbrev pub some_of : (ℕ → Bool) → List ℕ → Bool
some_of f [] = false
some_of f (x ∷ xs) = f x || some_of f xs

pub of_all : (f : ℕ → Bool) (xs : List ℕ) → T (all_of f xs) → {x : ℕ} → Memᴰ x xs → T (f x)
of_all f [] t {x = x} m = elim m [ ]
of_all f (y ∷ xs) t {x} (Memᴰ.head e) = subst (λ (z : ℕ). T (f z)) (sym e) (and_left (f y) (all_of f xs) t)
of_all f (y ∷ xs) t (Memᴰ.tail m) = of_all f xs (and_right (f y) (all_of f xs) t) m

pub some_of_lem : (f : ℕ → Bool) (xs : List ℕ) {x : ℕ} → Memᴰ x xs → T (f x) → T (some_of f xs)
some_of_lem f [] {x = x} m t = elim m [ ]
some_of_lem f (y ∷ xs) {x} (Memᴰ.head e) t = or_left (f y) (some_of f xs) (subst (λ (z : ℕ). T (f z)) e t)
some_of_lem f (y ∷ xs) (Memᴰ.tail m) t = or_right (f y) (some_of f xs) (some_of_lem f xs m t)

pub record Some (f : ℕ → Bool) (xs : List ℕ) : Type 0 where
  pub it : ℕ
  pub member : Memᴰ it xs
  pub passes : T (f it)

pub of_some : (f : ℕ → Bool) (xs : List ℕ) → T (some_of f xs) → Some f xs
of_some f [] t = absurd t
of_some f (x ∷ xs) t =
    or_cases (f x) (some_of f xs) t (λ a. record { it = x; member = Memᴰ.head refl; passes = a })
    (λ b. let s = of_some f xs b in record { it = s.it; member = Memᴰ.tail s.member; passes = s.passes })

-- the test passes at each entry of the list with its place, counted from i
abbrev pub every : (ℕ → ℕ → Bool) → ℕ → List ℕ → Bool
every f i [] = true
every f i (x ∷ xs) = f i x && every f (suc i) xs

from : (f : ℕ → ℕ → Bool) (xs : List ℕ) (i : ℕ) → T (every f i xs) → (k : ℕ) → k < length xs → T (f (i + k) (get_or xs k 0))
from f [] i t k h = absurd (not-suc-le-zero h)
from f (x ∷ xs) i t zero h = subst (λ (m : ℕ). T (f m x)) (sym (add-zero i)) (and_left (f i x) (every f (suc i) xs) t)
from f (x ∷ xs) i t (suc k) h =
    subst (λ (m : ℕ). T (f m (get_or xs k 0))) (suc-add i k ∙ sym (add-suc i k))
    (from f xs (suc i) (and_right (f i x) (every f (suc i) xs) t) k (le_of_suc-le-suc h))

pub at : (f : ℕ → ℕ → Bool) (xs : List ℕ) → T (every f 0 xs) → (k : ℕ) → k < length xs → T (f k (get_or xs k 0))
at f xs t k h = subst (λ (m : ℕ). T (f m (get_or xs k 0))) (zero-add k) (from f xs 0 t k h)
