-- `joints::write_classes` meets its contract. At j, the class numbers below j are stored.
-- Assumes nothing.
use Rattle.std.proofs.Common.{◌<◌, ◌∙◌, arith}
use Rattle.runs.proofs.Loops.{none_stored, stored, all_stored}
use Rattle.runs.proofs.Each.{each_length}
use Rattle.joints.proofs.Fresh.{own_class, no_class}
use Rattle.joints.proofs.write_classes.Goals as goal
use Rattle.joints.proofs.write_classes.Goals.{then-j-v, else-j-v}

pub loop-j-init : goal.loop-j-init
loop-j-init c = none_stored (each_length _ 0 64) c.requires

pub loop-j-preserved : goal.loop-j-preserved
loop-j-preserved c =
    let l = c.loop-j.invariant in
    let inside : c.loop-j.j < 64 = omega (arith, l.size, c.loop-j-test.true) in
    stored l inside
    (elim c.if-j-v.branch [
      | then-j-v w ↦ w.class-is ∙ own_class _ _ inside w.if-j-v.true
      | else-j-v w ↦ w.class-is ∙ no_class _ _ inside (omega (arith, w.if-j-v.false))
    ])

pub returns : goal.returns
returns c = all_stored c.loop-j.invariant (omega arith)
