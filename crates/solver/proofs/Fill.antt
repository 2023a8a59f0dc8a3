-- A loop that writes the places from low to i of a list, one after the other: what it has written, and what it has not touched.
-- Assumes nothing.
use mathlib.Core.Path.{◌≡◌, refl, ◌∙◌}
use mathlib.Core.Logic.{by_cases}
use mathlib.Core.List.{List}
use Prim.Native.Nat.{ℕ, ◌+◌, ◌<◌, ◌≤◌}
use native.Mathlib.Omega.{arith}
use native.Mathlib.Decide.{ℕ_discrete}
use lib.ListN.{get_or, length, set, length-set}
use lib.Seq.{get_or-set_same, get_or-set_other}

-- t is s with f at the places from low to i
pub record Filled (f : ℕ → ℕ) (low i : ℕ) (s t : List ℕ) : Type 0 where
  pub size : length t ≡ length s
  pub done : (k : ℕ) → low ≤ k → k < i → get_or t k 0 ≡ f k
  pub below : (k : ℕ) → k < low → get_or t k 0 ≡ get_or s k 0
  pub above : (k : ℕ) → i ≤ k → get_or t k 0 ≡ get_or s k 0

pub filled_none : (f : ℕ → ℕ) (low : ℕ) (s : List ℕ) → Filled f low low s s
filled_none f low s = record { size = refl; done = λ k a b. absurd (omega arith); below = λ k a. refl; above = λ k a. refl }

-- the place i is written
pub filled_set :
    (f : ℕ → ℕ) (low i : ℕ) (s t : List ℕ) (x : ℕ) → low ≤ i → i < length s → x ≡ f i
    → Filled f low i s t → Filled f low (i + 1) s (set t i x)
filled_set f low i s t x a b e h =
    record {
      size = length-set t i x ∙ h.size;
      done = λ k c d.
          by_cases (ℕ_discrete k i)
          (λ q. rw (q, get_or-set_same t i x 0 (omega (arith, h.size))) e)
          (λ q. rw (get_or-set_other t i k x 0 q) (h.done k c (omega arith)));
      below = λ k c. rw (get_or-set_other t i k x 0 (λ q. omega arith)) (h.below k c);
      above = λ k c. rw (get_or-set_other t i k x 0 (λ q. omega arith)) (h.above k (omega arith));
    }
