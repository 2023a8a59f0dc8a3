-- `reach::first_unmarked` meets its contract. The loop's invariant: the joints passed are marked.
-- The measure is what is left of the joints.
-- Assumes nothing.
use mathlib.Core.Path.{sym, ◌∙◌}
use native.Mathlib.Omega.{arith}
use borrow.Author.Tests.{eqb-false}
use Rattle.reach.specs.Reached.SmallestNot.{all, not_reached}
use Rattle.reach.proofs.first_unmarked.Goals as goal

pub returns-then-not-has : goal.returns-then-not-has
returns-then-not-has c =
    let l = c.loop-j in
    not_reached l.j c.loop-j-test.true
    (eqb-false _ _ (sym c.has.ensures ∙ c.if-not-has.true)) l.invariant.1

pub returns : goal.returns
returns c = all (λ j h. c.loop-j.invariant.1 j (omega arith))
