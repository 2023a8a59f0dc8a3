-- What the chains of the fast test have found: of numbers that each passed a test, and of the largest entry.
-- Assumes nothing.
use mathlib.Core.Path.{◌≡◌, refl, ◌∙◌}
use mathlib.Core.Bool.{Bool, true, false}
use mathlib.Core.List.{List, [], ◌∷◌, ◌++◌}
use Prim.Native.Nat.{ℕ, zero, suc, ◌≤◌, ◌<◌}
use native.Mathlib.Omega.{arith}
use lib.ListN.{length, get_or}
use Rattle.std.specs.Bool.{MatchBool}
use Rattle.std.specs.List.{range_with_len, AllWithin, HoldsAt}
use Rattle.std.proofs.lemmas.Bool.{both_ways}
use Rattle.std.proofs.lemmas.List.FromFn.{length-range_with_len, get_or-range_with_len}

-- where a chain that asks each number from 0 on says that all pass, each passes
pub each_passed : (P No : ℕ → Type 0) (n : ℕ) {r : Bool} →
    MatchBool r (AllWithin P (range_with_len 0 n) 0 (length (range_with_len 0 n)))
    ((k : ℕ) × (k < length (range_with_len 0 n)) × HoldsAt No (range_with_len 0 n) k) →
    r ≡ true → (k : ℕ) → k < n → P k
each_passed P No n {r = true} h e k b =
    let at : get_or (range_with_len 0 n) k 0 ≡ k = get_or-range_with_len 0 n k 0 b ∙ omega arith in
    let inside : k < length (range_with_len 0 n) = omega (arith, length-range_with_len 0 n) in
    rw at at (h k 0 (omega arith) inside)
each_passed P No n {r = false} h e k b = absurd (both_ways false refl e)

-- no entry is larger than `most`
pub record Bounded (xs : List ℕ) (most : ℕ) : Type 0 where
  pub bound : (k : ℕ) → get_or xs k 0 ≤ most

pub none_bounded : (most : ℕ) → Bounded [] most
none_bounded most = record { bound = λ k. omega arith }

-- nor is the entry behind them larger than `more`
pub bounded : (xs : List ℕ) {x most more : ℕ} → Bounded xs most → most ≤ more → x ≤ more → Bounded (xs ++ (x ∷ [])) more
bounded xs {x} {most} {more} b old new = record { bound = within xs b.bound }
  where
    within : (ys : List ℕ) → ((k : ℕ) → get_or ys k 0 ≤ most) → (k : ℕ) → get_or (ys ++ (x ∷ [])) k 0 ≤ more
    within [] h zero = new
    within [] h (suc k) = omega arith
    within (y ∷ ys) h zero = let first = h 0 in omega (arith, first, old)
    within (y ∷ ys) h (suc k) = within ys (λ j. h (suc j)) k
