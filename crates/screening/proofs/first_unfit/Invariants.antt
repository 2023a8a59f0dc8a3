-- `screening::first_unfit` meets its contract. The loop's invariant: the reply is what the search from the i-th part on finds.
-- The measure is what is left of the parts.
-- Assumes nothing.
use mathlib.Core.Path.{◌≡◌}
use mathlib.Core.Bool.{Bool}
use Prim.Native.Nat.{ℕ, ◌+◌, ◌-◌, ◌*◌}
use Rattle.screening.specs.Screening.{first_unfit}
use Rattle.screening.proofs.Screening.{Left}
use Rattle.screening.proofs.first_unfit.Given as goal

abbrev pub invariant-loop-i : goal.invariant-loop-i
invariant-loop-i g l =
    (right : ℕ → Bool) → ((at : ℕ) (r : Bool) → goal.F-post g l.fits at r → r ≡ right at) →
    Left (first_unfit right (λ i. l.from + l.size * i) 0 l.count) right (λ i. l.from + l.size * i) l.i l.count

abbrev pub decreases-loop-i : goal.decreases-loop-i
decreases-loop-i g l = l.count - l.i
