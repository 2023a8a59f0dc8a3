-- `vornulica::rig_take` meets its contract: the reply of taking, packed; at most 63 joins.
-- Assumes nothing.
use Rattle.vornulica.proofs.Thirds.{take_third}
use Rattle.vornulica.proofs.rig_take.Goals as goal

pub to_host-requires : goal.to_host-requires
to_host-requires c = take_third c.take.ensures
