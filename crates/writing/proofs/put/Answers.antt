-- `writing::put` meets its contract: the bytes stand where others stood.
-- Assumes nothing.
use Rattle.writing.proofs.Putting.{written_over}
use Rattle.writing.proofs.put.Goals as goal

pub returns : goal.returns
returns c = written_over c.args.bytes.now c.args.to.now c.copy_from_slice.new.self c.args.at c.requires c.copy_from_slice.ensures.after
