-- The digits of a number of at most three: from the laws of `decimal`, digit by digit.
-- Assumes nothing.
use mathlib.Core.Path.{◌≡◌, ◌∙◌, ap}
use mathlib.Core.Logic.{by_cases}
use mathlib.Core.List.{[], ◌∷◌, ◌++◌}
use Prim.Native.Nat.{ℕ, ◌+◌, ◌*◌, ◌/◌, ◌%◌, ◌<◌, ◌≤◌}
use native.Mathlib.Omega.{arith}
use native.Mathlib.Decide.{dec_lt}
use lib.ListN.{length}
use Rattle.decimals.specs.Decimal.{digit, decimal}
use Rattle.decimals.proofs.Decimals.{one_digit, more_digits}

-- a number of one, two or three digits, and the digits that it has
pub data Digits (x : ℕ) : Type 0 where
  single : x < 10 → decimal x ≡ digit x ∷ [] → Digits x
  double : (a b : ℕ) → 0 < a → a < 10 → b < 10 → x ≡ 10 * a + b → decimal x ≡ digit a ∷ digit b ∷ [] → Digits x
  triple : (a b c : ℕ) → 0 < a → a < 10 → b < 10 → c < 10 → x ≡ 10 * (10 * a + b) + c → decimal x ≡ digit a ∷ digit b ∷ digit c ∷ [] → Digits x

-- the digits of a number with one digit more
last_digit : (x d : ℕ) → 0 < x → x < 100 → d < 10 → decimal (10 * x + d) ≡ decimal x ++ (digit d ∷ [])
last_digit x d p h g =
    let tenth : (10 * x + d) / 10 ≡ x = omega arith in
    let left : (10 * x + d) % 10 ≡ d = omega arith in
    more_digits (10 * x + d) (omega arith) (omega arith) ∙ rw (tenth, left)

pub two_digits : (a b : ℕ) → 0 < a → a < 10 → b < 10 → decimal (10 * a + b) ≡ digit a ∷ digit b ∷ []
two_digits a b p h g = last_digit a b p (omega arith) g ∙ rw (one_digit a h)

pub three_digits : (a b c : ℕ) → 0 < a → a < 10 → b < 10 → c < 10 → decimal (10 * (10 * a + b) + c) ≡ digit a ∷ digit b ∷ digit c ∷ []
three_digits a b c p h g f = last_digit (10 * a + b) c (omega arith) (omega arith) f ∙ rw (two_digits a b p h g)

from_two : {x : ℕ} (a b : ℕ) → 0 < a → a < 10 → b < 10 → x ≡ 10 * a + b → Digits x
from_two a b p h g e = double a b p h g e (ap decimal e ∙ two_digits a b p h g)

from_three : {x : ℕ} (a b c : ℕ) → 0 < a → a < 10 → b < 10 → c < 10 → x ≡ 10 * (10 * a + b) + c → Digits x
from_three a b c p h g f e = triple a b c p h g f e (ap decimal e ∙ three_digits a b c p h g f)

pub digits_of : (x : ℕ) → x < 1000 → Digits x
digits_of x h =
    by_cases (dec_lt x 10)
    (λ g. single g (one_digit x g))
    (λ g.
    by_cases (dec_lt x 100)
    (λ f. from_two (x / 10) (x % 10) (omega arith) (omega arith) (omega arith) (omega arith))
    (λ f. from_three (x / 10 / 10) (x / 10 % 10) (x % 10) (omega arith) (omega arith) (omega arith) (omega arith) (omega arith)))

-- how many they are
pub two_at_most : (x : ℕ) → x < 100 → length (decimal x) ≤ 2
two_at_most x h =
    elim (digits_of x (omega arith)) [
      | single g e ↦ rw e (omega arith)
      | double a b p g f q e ↦ rw e (omega arith)
      | triple a b c p g f i q e ↦ absurd (omega arith)
    ]

pub three_at_most : (x : ℕ) → x < 1000 → length (decimal x) ≤ 3
three_at_most x h =
    elim (digits_of x h) [
      | single g e ↦ rw e (omega arith)
      | double a b p g f q e ↦ rw e (omega arith)
      | triple a b c p g f i q e ↦ rw e (omega arith)
    ]
