-- `lines::Line::with_word` meets its contract: so many bytes of the word are put.
-- Assumes nothing.
use borrow.Author.Rules.{rules}
use Rattle.lines.proofs.Puts.{byte_put}
use Rattle.lines.proofs.Line.with_word.Goals as goal

pub loop-x-preserved : goal.loop-x-preserved
loop-x-preserved c = byte_put c.loop-x.invariant (search rules) c.with_byte-line.ensures
