-- `writing::put_straight` meets its contract: the form stands in front, and what is behind it has not been touched.
-- Assumes nothing.
use Rattle.writing.proofs.Writing.{straight}
use Rattle.writing.proofs.put_straight.Goals as goal

pub returns : goal.returns
returns c = straight c.args.block.now c.put_form-size.ensures.short c.put_form-size.ensures.put c.requires
