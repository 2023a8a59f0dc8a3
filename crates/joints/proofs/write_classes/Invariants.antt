-- `joints::write_classes` meets its contract. At j, the class numbers below j are stored.
-- Assumes nothing.
use Rattle.runs.proofs.Loops.{Filling}
use Rattle.joints.specs.Fresh.{own_classes}
use Rattle.joints.proofs.write_classes.Given as goal

abbrev pub invariant-loop-j : goal.invariant-loop-j
invariant-loop-j l = Filling (own_classes l.v) 64 l.j l.part
