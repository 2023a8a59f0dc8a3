-- A number below 10^10 in decimal: a digit, or the digits of a tenth of it and then its last. Reading the digits back gives the number, and
-- there is no leading zero.
-- Assumes nothing.
use mathlib.Core.Path.{◌≡◌, sym, ◌∙◌, ap}
use mathlib.Core.Logic.{by_cases}
use mathlib.Core.List.{List, [], ◌∷◌, ◌++◌}
use Prim.Native.Nat.{ℕ, zero, suc, ◌+◌, ◌*◌, ◌-◌, ◌/◌, ◌%◌, ◌^◌, ◌≤◌, ◌<◌}
use native.Mathlib.Omega.{arith}
use native.Mathlib.Decide.{dec_lt}
use native.Mathlib.Nat.{div-add-mod', mod-lt, pow-suc}
use lib.ListN.{length, get_or, length-append, get_or-append}
use borrow.Author.Tests.{lt-ltb, le-ltb}
use Rattle.decimals.specs.Decimal.{digit, digits, decimal}

tenth_below : (k x : ℕ) → x < 10 ^ suc k → x / 10 < 10 ^ k
tenth_below k x h = omega (arith, div-add-mod' x 10, pow-suc 10 k)

-- one digit more is allowed, where those allowed are enough
enough : (k x : ℕ) → x < 10 ^ suc k → digits (suc k) x ≡ digits (suc (suc k)) x
unfolding digits
enough zero x h = rw (lt-ltb x 10 h)
enough (suc k) x h = rw (enough k (x / 10) (tenth_below (suc k) x h))

pub one_digit : (x : ℕ) → x < 10 → decimal x ≡ digit x ∷ []
unfolding digits
one_digit x h = rw (lt-ltb x 10 h)

pub more_digits : (x : ℕ) → 10 ≤ x → x < 10 ^ 10 → decimal x ≡ decimal (x / 10) ++ (digit (x % 10) ∷ [])
unfolding digits
more_digits x h g = rw (le-ltb x 10 h, enough 8 (x / 10) (tenth_below 9 x g))

pub length_one : (x : ℕ) → x < 10 → length (decimal x) ≡ 1
length_one x h = rw (one_digit x h)

pub length_more : (x : ℕ) → 10 ≤ x → x < 10 ^ 10 → length (decimal x) ≡ length (decimal (x / 10)) + 1
length_more x h g = ap length (more_digits x h g) ∙ length-append (decimal (x / 10)) (digit (x % 10) ∷ [])

pub length_digits : (k x : ℕ) → length (digits k x) ≤ k
unfolding digits
length_digits zero x = omega arith
length_digits (suc k) x =
    by_cases (dec_lt x 10)
    (λ h. rw (lt-ltb x 10 h) (omega arith))
    (λ h. rw (le-ltb x 10 (omega arith), length-append) (omega (arith, length_digits k (x / 10))))

-- the number that digits stand for, read from the first to the last, where v is what the digits before them stand for
abbrev pub value_from : ℕ → List ℕ → ℕ
value_from v [] = v
value_from v (d ∷ ds) = value_from (10 * v + (d - digit 0)) ds

abbrev pub value : List ℕ → ℕ
value ds = value_from 0 ds

value_last : (v : ℕ) (ds : List ℕ) (d : ℕ) → d < 10 → value_from v (ds ++ (digit d ∷ [])) ≡ 10 * value_from v ds + d
value_last v [] d h = omega arith
value_last v (x ∷ ds) d h = value_last (10 * v + (x - digit 0)) ds d h

digits_value : (k x : ℕ) → x < 10 ^ suc k → value (digits (suc k) x) ≡ x
unfolding digits
digits_value zero x h = rw (lt-ltb x 10 h) (omega arith)
digits_value (suc k) x h =
    by_cases (dec_lt x 10)
    (λ g. rw (lt-ltb x 10 g) (omega arith))
    (λ g.
    let r = digits_value k (x / 10) (tenth_below (suc k) x h) in
    let l : x % 10 < 10 = mod-lt x (omega arith) in
    rw (le-ltb x 10 (omega arith), value_last) (omega (arith, div-add-mod' x 10)))

pub reads_back : (x : ℕ) → x < 10 ^ 10 → value (decimal x) ≡ x
reads_back x h = digits_value 9 x h

some_digit : (k x : ℕ) → 0 < length (digits (suc k) x)
unfolding digits
some_digit k x =
    by_cases (dec_lt x 10)
    (λ h. rw (lt-ltb x 10 h) (omega arith))
    (λ h. rw (le-ltb x 10 (omega arith), length-append) (omega arith))

digits_lead : (k x : ℕ) → 0 < x → x < 10 ^ suc k → get_or (digits (suc k) x) 0 0 ≡ digit 0 → ⊥
unfolding digits
digits_lead zero x p h e = omega (arith, rw (lt-ltb x 10 h) at e)
digits_lead (suc k) x p h e =
    by_cases (dec_lt x 10)
    (λ g. omega (arith, rw (lt-ltb x 10 g) at e))
    (λ g. digits_lead k (x / 10) (omega (arith, div-add-mod' x 10, mod-lt x {m = 10} (omega arith))) (tenth_below (suc k) x h)
    (sym (get_or-append (digits (suc k) (x / 10)) (digit (x % 10) ∷ []) 0 0 (some_digit k (x / 10))) ∙ rw (le-ltb x 10 (omega arith)) at e))

pub no_leading_zero : (x : ℕ) → 0 < x → x < 10 ^ 10 → get_or (decimal x) 0 0 ≡ digit 0 → ⊥
no_leading_zero x p h = digits_lead 9 x p h
