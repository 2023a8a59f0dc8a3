-- `fitting::highest` meets its contract. At an index, no byte below it is above `most`, once `more` is added to it.
-- Assumes nothing.
use Rattle.fitting.proofs.Apart.{Seen}
use Rattle.fitting.proofs.highest.Given as goal

abbrev pub invariant-loop-x : goal.invariant-loop-x
invariant-loop-x l = Seen l.more l.most l.x-index l.part
