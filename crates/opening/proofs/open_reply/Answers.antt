-- `opening::open_reply` meets its contract: 1 where the sizes do not fit, otherwise the reply to the table.
-- Assumes nothing.
use mathlib.Core.Path.{sym, ◌∙◌}
use borrow.Author.Tests.{not-true, not-false}
use Rattle.opening.proofs.Opening.{not_fitting, then_table}
use Rattle.opening.proofs.open_reply.Goals as goal

pub returns-then-not-sizes_fit : goal.returns-then-not-sizes_fit
returns-then-not-sizes_fit c = sym (not_fitting _ _ _ _ (sym c.sizes_fit.ensures ∙ not-true _ c.if-not-sizes_fit.true-raw))

pub returns : goal.returns
returns c = c.check.ensures ∙ sym (then_table _ _ _ _ (sym c.sizes_fit.ensures ∙ not-false _ c.if-not-sizes_fit.false-raw))
