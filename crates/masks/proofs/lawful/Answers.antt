-- `masks::lawful` meets its contract: what the four tests have seen makes the table lawful.
-- Assumes nothing.
use Rattle.masks.proofs.Embedding.{seen_lawful}
use Rattle.masks.proofs.lawful.Goals as goal

pub returns-then-pairs_hold : goal.returns-then-pairs_hold
returns-then-pairs_hold c = λ e.
    seen_lawful _ _ _ (c.all_kinds.ensures c.if-not-all_kinds.false) (c.singles_hold.ensures c.if-not-singles_hold.false)
    (c.pairs_hold.ensures c.if-pairs_hold.true) (c.apart.ensures e)
