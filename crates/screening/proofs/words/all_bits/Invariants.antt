-- `screening::words::all_bits` meets its contract. At an index, the bits of the facts before it are gathered.
-- Assumes nothing.
use Rattle.screening.proofs.Clear.{Gathered}
use Rattle.screening.proofs.words.all_bits.Given as goal

abbrev pub invariant-loop-fact : goal.invariant-loop-fact
invariant-loop-fact l = Gathered l.kind l.same l.link l.filled l.fact-index l.any
