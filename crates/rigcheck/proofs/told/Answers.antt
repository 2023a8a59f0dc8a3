-- `rigcheck::told` meets its contract: each return is the case of its step.
-- Assumes nothing.
use Rattle.rigcheck.proofs.told.Goals as goal

pub returns-in-Packet : goal.returns-in-Packet
returns-in-Packet c = rw c.in-Packet.is c.told_packet.ensures
