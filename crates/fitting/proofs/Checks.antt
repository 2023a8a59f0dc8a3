-- What the tests stand on: the answer to each is the one that its definition asks for.
-- Assumes nothing.
use Rattle.std.proofs.Common.{◌≡◌, ℕ, ◌<◌, Bool, true, false, length, get_or, sym, ◌∙◌, arith}
use Rattle.std.specs.Bool.{MatchBool}
use Rattle.std.specs.List.{range_with_len, AllWithin, HoldsAt}
use Rattle.std.proofs.lemmas.Bool.{both_ways, false_from_ne_true}
use Rattle.std.proofs.lemmas.List.FromFn.{length-range_with_len, get_or-range_with_len}
use Rattle.fitting.specs.Fits.{all}
use Rattle.fitting.proofs.Tests.{all_use, all_make}

-- the answer r of a chain that asks f of each number from 0 on, until one fails
pub each_asked : (f : ℕ → Bool) (count : ℕ) {r : Bool} →
    MatchBool r (AllWithin (λ k. f k ≡ true) (range_with_len 0 count) 0 (length (range_with_len 0 count)))
    ((k : ℕ) × (k < length (range_with_len 0 count)) × HoldsAt (λ k. f k ≡ false) (range_with_len 0 count) k) →
    r ≡ all f 0 count
each_asked f count {r = true} h =
    sym (all_make f 0 count (λ k a b.
    let e : get_or (range_with_len 0 count) k 0 ≡ k = get_or-range_with_len 0 count k 0 (omega arith) ∙ omega arith in
    rw e at (h k 0 (omega arith) (omega (arith, length-range_with_len 0 count)))))
each_asked f count {r = false} h =
    let k = h.0 in
    let inside : k < count = omega (arith, h.1, length-range_with_len 0 count) in
    let e : get_or (range_with_len 0 count) k 0 ≡ k = get_or-range_with_len 0 count k 0 inside ∙ omega arith in
    let fails : f k ≡ false = rw e at (h.2 0) in
    sym (false_from_ne_true (all f 0 count) (λ t. both_ways (f k) fails (all_use f 0 count t k (omega arith) (omega arith))))
