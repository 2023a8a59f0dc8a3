-- The lowest bit of two numbers together, from which laws of all bits follow by halving.
-- Assumes nothing.
use mathlib.Core.Path.{◌≡◌, ap, ◌∙◌}
use Prim.Native.Nat.{ℕ, ◌/◌, ◌%◌, ◌<◌, min, max}
use native.Mathlib.Omega.{arith}
use native.Mathlib.Nat.{mod-lt}
use lib.Arith.{digits_mod}
use lib.Bits.{bit_and, bit_or, and_step, or_step}

pub below_two : (a : ℕ) → a % 2 < 2
below_two a = mod-lt a (omega arith)

pub and_odd : (a b : ℕ) → bit_and a b % 2 ≡ min (a % 2) (b % 2)
and_odd a b = ap (λ (x : ℕ). x % 2) (and_step a b) ∙ digits_mod (bit_and (a / 2) (b / 2)) (omega (arith, below_two a))

pub or_odd : (a b : ℕ) → bit_or a b % 2 ≡ max (a % 2) (b % 2)
or_odd a b = ap (λ (x : ℕ). x % 2) (or_step a b) ∙ digits_mod (bit_or (a / 2) (b / 2)) (omega (arith, below_two a, below_two b))
