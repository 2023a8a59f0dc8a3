-- `vornulica::rig_read_term` meets its contract: the reply of reading a term, packed; what is written is short.
-- Assumes nothing.
use Rattle.term_reading.proofs.ReadThird.{read_term_third}
use Rattle.vornulica.proofs.rig_read_term.Goals as goal

pub to_host-requires : goal.to_host-requires
to_host-requires c = read_term_third c.read.ensures
