-- Where the bits of kinds lie, and what is seen of masks that give back their kinds.
-- Assumes nothing.
use mathlib.Core.Path.{◌≡◌, sym, ap, ◌∙◌}
use mathlib.Core.List.{List}
use Prim.Native.Nat.{ℕ, ◌<◌}
use native.Mathlib.Omega.{arith}
use lib.Bits.{bit_and}
use lib.Count.{ones, count_trailing_zeros}
use lib.ListN.{get_or}
use Rattle.masks.specs.Masks.{Apart, crosswise, kind_of}

pub crosswise_lt : {k : ℕ} → k < 64 → crosswise k < 64
unfolding crosswise
crosswise_lt h = omega arith

-- the rank and the place as they were found
pub kind_read : (ranks : List ℕ) (mask : ℕ) {r k : ℕ} → r ≡ ones mask → k ≡ crosswise (count_trailing_zeros 64 (bit_and (get_or ranks r 0) mask)) → k ≡ kind_of ranks mask
unfolding kind_of
kind_read ranks mask e f = f ∙ ap (λ (x : ℕ). crosswise (count_trailing_zeros 64 (bit_and (get_or ranks x 0) mask))) e

-- masks that give back their kinds, by whatever function, are those of one kind each
pub gives_apart : {n : ℕ} (masks : List ℕ) (f : ℕ → ℕ) → ((i : ℕ) → i < n → f (get_or masks i 0) ≡ i) → Apart n masks
gives_apart masks f back i j hi hj e = sym (back i hi) ∙ ap f e ∙ back j hj
