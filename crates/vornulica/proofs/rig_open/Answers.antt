-- `vornulica::rig_open` meets its contract: the reply of opening, packed; its third is 0.
-- Assumes nothing.
use mathlib.Core.Path.{◌∙◌, ap}
use Rattle.replies.specs.Replies.{third}
use Rattle.opening.proofs.Opening.{open_third}
use Rattle.vornulica.proofs.Thirds.{small}
use Rattle.vornulica.proofs.rig_open.Goals as goal

pub to_host-requires : goal.to_host-requires
to_host-requires c = let a = c.args in
    small c.«open».result
    (ap third c.«open».ensures.0 ∙ open_third a.n a.v a.table.now a.block.now)
