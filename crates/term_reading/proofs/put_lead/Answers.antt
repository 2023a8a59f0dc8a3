-- `term_reading::put_lead` meets its contract: no fact, or one link fact.
-- Assumes nothing.
use Rattle.term_reading.proofs.Facts.{lead_none, lead_fact}
use Rattle.term_reading.proofs.put_lead.Goals as goal

pub returns-in-None : goal.returns-in-None
returns-in-None c = let a = c.args in lead_none a.joint a.i a.packet.now c.in-None.is

pub returns-in-Some : goal.returns-in-Some
returns-in-Some c = lead_fact _ _ _ c.in-Some.is c.put_fact.ensures
