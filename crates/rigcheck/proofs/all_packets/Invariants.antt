-- The turns so far.
-- Assumes nothing.
use Rattle.rigcheck.proofs.Rounds.{SoFar}
use Rattle.rigcheck.proofs.all_packets.Given as goal

abbrev pub invariant-loop : goal.invariant-loop
invariant-loop g l = SoFar l.initial.block (g.R.Read.remaining l.initial.input) (g.W.Write.contents l.initial.out) l.counter l.block (g.R.Read.remaining l.input) (g.W.Write.contents l.out)
