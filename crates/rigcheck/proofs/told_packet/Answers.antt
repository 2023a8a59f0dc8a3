-- `rigcheck::told_packet` meets its contract: the packet is cut, or the front of the bytes read is answered.
-- Assumes nothing.
use Rattle.std.proofs.Common.{refl}
use Rattle.rigcheck.specs.Lines.Turn.{cut_behind, whole}
use Rattle.rigcheck.proofs.told_packet.Goals as goal

pub returns-then-rest-size : goal.returns-then-rest-size
returns-then-rest-size c = cut_behind _ refl c.if-rest-size.true c.refused.ensures refl

pub returns : goal.returns
returns c = whole _ refl c.if-rest-size.false c.answered.ensures
