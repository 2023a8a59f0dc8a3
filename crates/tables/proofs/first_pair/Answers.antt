-- `tables::first_pair` meets its contract. At i, j, the reply is that to the pairs of i from j on, and then to those of the kinds after i.
-- Assumes nothing.
use mathlib.Core.Path.{refl, sym, ◌∙◌}
use native.Mathlib.Omega.{arith}
use Rattle.tables.specs.Check.{law_reply, pairs}
use Rattle.tables.proofs.Scan.{begins, opens, equal, unequal, kept, broken, closes, no_more}
use Rattle.tables.proofs.first_pair.Goals as goal

pub loop-i-init : goal.loop-i-init
unfolding pairs
loop-i-init c = (omega arith, begins _ _ _ _)

pub loop-j-init : goal.loop-j-init
loop-j-init c = (omega arith, opens c.loop-i.invariant.1 _ _ c.loop-i-test.true refl)

pub loop-j-preserved : goal.loop-j-preserved
unfolding law_reply
loop-j-preserved c = (
  omega arith,
  kept c.loop-j.invariant.1 c.loop-j-test.true refl
      (equal _ _ (sym c.kind_at.ensures.0 ∙ c.if-kind_at.false ∙ c.kind_at-in-loop-j.ensures.0)),
)

pub loop-i-preserved : goal.loop-i-preserved
loop-i-preserved c = (omega arith, record { is = closes c.loop-j.invariant.1 c.loop-j-test.false })

pub returns-then-kind_at : goal.returns-then-kind_at
unfolding law_reply
returns-then-kind_at c = c.broken.ensures
    ∙ sym (broken c.loop-j.invariant.1 c.loop-j-test.true refl
    (unequal _ _ (λ e. c.if-kind_at.true (c.kind_at.ensures.0 ∙ e ∙ sym c.kind_at-in-loop-j.ensures.0))))

pub returns : goal.returns
returns c = sym (closes c.loop-i.invariant.1 c.loop-i-test.false ∙ no_more _ _)
