-- `tables::first_single` meets its contract. At i, the reply is that to the laws of the kinds from i on.
-- Assumes nothing.
use mathlib.Core.Path.{sym, ◌∙◌}
use native.Mathlib.Omega.{arith}
use Rattle.replies.proofs.Laws.{went_on, stopped, handed_back}
use Rattle.tables.specs.Check.{singles}
use Rattle.tables.proofs.Scan.{begins, passes, stops, closes, no_more}
use Rattle.tables.proofs.first_single.Goals as goal

pub loop-i-init : goal.loop-i-init
unfolding singles
loop-i-init c = (omega arith, begins _ _ _ _)

pub loop-i-preserved : goal.loop-i-preserved
loop-i-preserved c = (omega arith, passes c.loop-i.invariant.1 c.loop-i-test.true (went_on c.breach_at.ensures c.in_ok-breach_at.was))

pub returns-in_err-breach_at : goal.returns-in_err-breach_at
returns-in_err-breach_at c =
    handed_back c.breach_at.ensures c.in_err-breach_at.was c.from_residual.ensures.1
    ∙ sym (stops c.loop-i.invariant.1 c.loop-i-test.true (stopped c.breach_at.ensures c.in_err-breach_at.was))

pub returns : goal.returns
returns c = sym (closes c.loop-i.invariant.1 c.loop-i-test.false ∙ no_more _ _)
