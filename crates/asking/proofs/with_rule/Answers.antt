-- `asking::with_rule` meets its contract: a clash of the ties is one of the rule, and else the facts decide.
-- Assumes nothing.
use Rattle.meaning.proofs.Takes.{refuted_more}
use Rattle.solver.proofs.Takes.{took_refuted, took_then}
use Rattle.asking.proofs.with_rule.Goals as goal

pub returns-in_err-with_ties : goal.returns-in_err-with_ties
returns-in_err-with_ties c =
    took_refuted _ _ _ c.from_residual.ensures.0 (refuted_more _ _ _ _ _ _ (rw c.in_err-with_ties.was at c.with_ties.ensures.0))

pub returns : goal.returns
returns c = took_then _ _ _ _ (rw c.in_ok-with_ties.was at c.with_ties.ensures.0) c.with_rule_facts.ensures
