-- `term_writing::put_head` meets its contract: a sign, a number and the kind, one behind the other.
-- Assumes nothing.
use Rattle.term_writing.proofs.Texts.{both_put}
use Rattle.term_writing.proofs.put_head.Goals as goal

pub returns : goal.returns
returns c = both_put c.put-next.ensures (both_put c.put_number-next.ensures c.put_kind.ensures)
