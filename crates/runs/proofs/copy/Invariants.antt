-- `runs::copy` meets its contract. At i, the bytes below i are stored.
-- Assumes nothing.
use lib.ListN.{length}
use Rattle.runs.proofs.Loops.{Filling}
use Rattle.runs.proofs.copy.Given as goal

abbrev pub invariant-loop-i : goal.invariant-loop-i
invariant-loop-i l = Filling l.from (length l.from) l.i l.to
