-- `rigcheck::answered` meets its contract: the answer of taking or of asking, and the line of its word.
-- Assumes nothing.
use Rattle.std.proofs.Common.{refl, sym, ◌∙◌}
use Rattle.rigcheck.specs.Lines.Answered.{facts, rule}
use Rattle.rigcheck.proofs.answered.Goals as goal

pub returns-then-is_facts : goal.returns-then-is_facts
returns-then-is_facts c = facts _ (sym c.is_facts.ensures ∙ c.if-is_facts.true) c.take-reply.ensures c.of_reply.ensures.text

pub returns : goal.returns
returns c = rule _ (sym c.is_facts.ensures ∙ c.if-is_facts.false) c.ask-reply.ensures refl c.of_reply-2.ensures.text
