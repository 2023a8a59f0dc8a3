-- What `all` tells of the numbers below one.
-- Assumes nothing.
use Rattle.std.proofs.Common.{◌≡◌, ℕ, ◌<◌, Bool, true, false, length, MatchBool, subst, arith}
use Rattle.std.specs.List.{HoldsAt, AllWithin, range_with_len}
use Rattle.std.proofs.lemmas.List.FromFn.{length-range_with_len, get_or-range_with_len}
use lib.ListN.{get_or}

pub all_below : (r : Bool) (n : ℕ) (Yes No : ℕ → Type 0) →
    MatchBool r (AllWithin Yes (range_with_len 0 n) 0 (length (range_with_len 0 n)))
    ((k : ℕ) × (k < length (range_with_len 0 n)) × HoldsAt No (range_with_len 0 n) k) →
    MatchBool r ((j : ℕ) → j < n → Yes j) ((j : ℕ) × ((j < n) × No j))
all_below r n Yes No h = by_answer r h
  where
    at : {k : ℕ} → k < n → get_or (range_with_len 0 n) k 0 ≡ k
    at {k} b = omega (arith, get_or-range_with_len 0 n k 0 b)

    by_answer : (r : Bool) → MatchBool r (AllWithin Yes (range_with_len 0 n) 0 (length (range_with_len 0 n)))
        ((k : ℕ) × (k < length (range_with_len 0 n)) × HoldsAt No (range_with_len 0 n) k) →
        MatchBool r ((j : ℕ) → j < n → Yes j) ((j : ℕ) × ((j < n) × No j))
    by_answer true all = λ j b. subst Yes (at b) (all j 0 (omega arith) (omega (arith, length-range_with_len 0 n)))
    by_answer false some =
        let b : some.0 < n = omega (arith, length-range_with_len 0 n, some.1) in
        (some.0, (b, subst No (at b) (some.2 0)))
