-- A run of zeros: every place of it is 0, and the other way round.
-- Assumes nothing.
use mathlib.Core.Path.{◌≡◌, refl}
use mathlib.Core.Bool.{true, and-eq-true_iff}
use mathlib.Core.List.{List, [], ◌∷◌}
use Prim.Native.Nat.{ℕ, zero, suc}
use lib.Dec.{eqb}
use lib.ListN.{get_or, replicate}
use borrow.Author.Tests.{eqb-true, eq-eqb}
use Rattle.runs.specs.Runs.{all_zero}

pub zero_at : (xs : List ℕ) → all_zero xs ≡ true → (i : ℕ) → get_or xs i 0 ≡ 0
unfolding all_zero
zero_at [] e i = refl
zero_at (x ∷ xs) e zero = eqb-true x 0 ((and-eq-true_iff (eqb x 0) (all_zero xs)).0 e).0
zero_at (x ∷ xs) e (suc i) = zero_at xs ((and-eq-true_iff (eqb x 0) (all_zero xs)).0 e).1 i

pub all_zero_lem : (xs : List ℕ) → ((i : ℕ) → get_or xs i 0 ≡ 0) → all_zero xs ≡ true
unfolding all_zero
all_zero_lem [] h = refl
all_zero_lem (x ∷ xs) h = rw (eq-eqb x 0 (h 0), all_zero_lem xs (λ i. h (suc i)))

pub zeros_at : (m i : ℕ) → ◌≡◌ {A = ℕ} (get_or (replicate m 0) i 0) 0
zeros_at zero i = refl
zeros_at (suc m) zero = refl
zeros_at (suc m) (suc i) = zeros_at m i
