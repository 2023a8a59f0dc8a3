-- `runs::copy` meets its contract. At i, the bytes below i are stored.
-- Assumes nothing.
use Rattle.std.proofs.Common.{refl, arith}
use Rattle.runs.proofs.Loops.{none_stored, stored, all_stored}
use Rattle.runs.proofs.copy.Goals as goal

pub loop-i-init : goal.loop-i-init
loop-i-init c = none_stored refl c.requires

pub loop-i-preserved : goal.loop-i-preserved
loop-i-preserved c =
    let l = c.loop-i.invariant in
    stored l (omega (arith, l.size, c.loop-i-test.true)) refl

pub returns : goal.returns
returns c = all_stored c.loop-i.invariant (omega arith)
