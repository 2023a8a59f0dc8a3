-- `house::words::differing` meets its contract. At i, the bits in which the words before the i-th differ are gathered.
-- Assumes nothing.
use Rattle.house.proofs.Bytes.{Differing}
use Rattle.house.proofs.words.differing.Given as goal

abbrev pub invariant-loop-i : goal.invariant-loop-i
invariant-loop-i l = Differing l.bytes l.words l.i l.any
