-- `lines::Line::with_word` meets its contract: so many bytes of the word are put.
-- Assumes nothing.
use Rattle.lines.proofs.Puts.{Putting}
use Rattle.lines.proofs.Line.with_word.Given as goal

abbrev pub invariant-loop-x : goal.invariant-loop-x
invariant-loop-x l = Putting l.initial.line l.word l.x-index l.line
