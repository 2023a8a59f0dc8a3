-- `vornulica::rig_write_term` meets its contract: the reply of writing a term, packed; what is written is short.
-- Assumes nothing.
use Rattle.term_writing.proofs.WrittenText.{write_term_third}
use Rattle.vornulica.proofs.rig_write_term.Goals as goal

pub to_host-requires : goal.to_host-requires
to_host-requires c = write_term_third c.write.ensures
