-- `rigcheck::all_packets` meets its contract: the turns so far, and the last one.
-- Assumes nothing.
use Rattle.rigcheck.proofs.Rounds.{again, at_last}
use Rattle.rigcheck.proofs.all_packets.Goals as goal

pub returns-then-not-branch : goal.returns-then-not-branch
returns-then-not-branch g c = at_last _ _ _ _ _ _ _ _ _ _ c.if-not-branch.true c.loop.invariant c.in_ok-next_packet.ensures

pub loop-preserved : goal.loop-preserved
loop-preserved g c = again _ _ _ _ _ _ _ _ _ _ c.if-not-branch.false c.loop.invariant c.in_ok-next_packet.ensures
