-- `term_writing::put_link` meets its contract: a sign, a number and two signs, one behind the other.
-- Assumes nothing.
use Rattle.term_writing.proofs.Texts.{both_put}
use Rattle.term_writing.proofs.put_link.Goals as goal

pub returns : goal.returns
returns c = both_put c.put-next.ensures (both_put c.put_number-next.ensures c.put.ensures)
