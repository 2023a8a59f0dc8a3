-- Tests put together of others, read as what they test: both of two, one of two, one chosen by another, a range, and each of a run.
-- Assumes nothing.
use Rattle.std.proofs.Common.{◌≡◌, ℕ, zero, suc, ◌+◌, ◌<◌, ◌≤◌, Bool, true, false, cond, ◌||◌, leb, refl, arith, le-leb, leb-true}
use mathlib.Core.Logic.{by_cases}
use native.Mathlib.Decide.{ℕ_discrete}
use Rattle.runs.specs.Runs.{within}
use Rattle.fitting.specs.Fits.{all}
use Rattle.std.proofs.lemmas.Bool.{and_from, and_parts}

-- two tests of which the second passes; and the test that is chosen by another
pub or_right : (a b : Bool) → b ≡ true → (a || b) ≡ true
or_right true b e = refl
or_right false b e = e

pub chosen : (a b c : Bool) → (a ≡ true → b ≡ true) → (a ≡ false → c ≡ true) → cond a b c ≡ true
chosen true b c f g = f refl
chosen false b c f g = g refl

pub then : (a b c : Bool) → a ≡ true → cond a b c ≡ true → b ≡ true
then a b c p e = rw p at e

pub else : (a b c : Bool) → a ≡ false → cond a b c ≡ true → c ≡ true
else a b c p e = rw p at e

-- a test of a range
pub range_use : (low high x : ℕ) → within low high x ≡ true → (low ≤ x) × (x ≤ high)
range_use low high x e = (leb-true low x (and_parts (leb low x) (leb x high) e).0, leb-true x high (and_parts (leb low x) (leb x high) e).1)

pub range_make : (low high x : ℕ) → low ≤ x → x ≤ high → within low high x ≡ true
range_make low high x h g = and_from (leb low x) (leb x high) (le-leb _ _ h) (le-leb _ _ g)

-- a test that passes throughout passes at each place, and the other way round
pub all_use : (f : ℕ → Bool) (i count : ℕ) → all f i count ≡ true → (k : ℕ) → i ≤ k → k < i + count → f k ≡ true
unfolding all
all_use f i zero e k h g = absurd (omega arith)
all_use f i (suc count) e k h g =
    by_cases (ℕ_discrete k i)
    (λ q. rw q (and_parts (f i) (all f (suc i) count) e).0)
    (λ d. all_use f (suc i) count (and_parts (f i) (all f (suc i) count) e).1 k (omega arith) (omega arith))

pub all_make : (f : ℕ → Bool) (i count : ℕ) → ((k : ℕ) → i ≤ k → k < i + count → f k ≡ true) → all f i count ≡ true
unfolding all
all_make f i zero h = refl
all_make f i (suc count) h =
    and_from (f i) (all f (suc i) count) (h i (omega arith) (omega arith))
    (all_make f (suc i) count (λ k a b. h k (omega arith) (omega arith)))
