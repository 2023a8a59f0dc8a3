-- `vornulica::rig_write` meets its contract: the reply of writing, packed; at most 4,358 bytes are written.
-- Assumes nothing.
use mathlib.Core.Path.{ap}
use Rattle.replies.specs.Replies.{third}
use Rattle.writing.proofs.Writing.{write_third}
use Rattle.vornulica.proofs.rig_write.Goals as goal

pub to_host-requires : goal.to_host-requires
to_host-requires c = let a = c.args in rw (ap third c.write.ensures.0) (write_third a.block.now a.out.now)
