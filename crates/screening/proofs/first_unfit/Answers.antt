-- `screening::first_unfit` meets its contract. The loop's invariant: the reply is what the search from the i-th part on finds.
-- The measure is what is left of the parts.
-- Assumes nothing.
use mathlib.Core.Path.{refl, sym, ◌∙◌}
use Rattle.screening.proofs.Screening.{begins, passes, stops, ends}
use Rattle.screening.proofs.first_unfit.Goals as goal

pub loop-i-init : goal.loop-i-init
loop-i-init g c = λ right is. begins right _ refl

pub loop-i-preserved : goal.loop-i-preserved
loop-i-preserved g c =
    λ right is. passes (c.loop-i.invariant right is) c.loop-i-test.true (sym (is _ _ c.fits.ensures) ∙ c.if-not-fits.false)

pub returns-then-not-fits : goal.returns-then-not-fits
returns-then-not-fits g c =
    λ right is. sym (stops (c.loop-i.invariant right is) c.loop-i-test.true (sym (is _ _ c.fits.ensures) ∙ c.if-not-fits.true))

pub returns : goal.returns
returns g c = λ right is. sym (ends (c.loop-i.invariant right is) c.loop-i-test.false)
