-- `fitting::rises` meets its contract. At j, the bits in which the bytes below j differ from the numbers below j are gathered.
-- Assumes nothing.
use Rattle.std.proofs.Common.{length, sym, arith}
use Rattle.runs.proofs.Loops.{none_compared, compared, all_compared}
use Rattle.runs.proofs.Each.{each_length, each_at}
use Rattle.fitting.proofs.rises.Goals as goal

pub loop-j-init : goal.loop-j-init
loop-j-init c = none_compared (sym (each_length _ 0 _))

pub loop-j-preserved : goal.loop-j-preserved
loop-j-preserved c =
    let e = each_at (λ k. k) (length c.args.part.now) c.loop-j.j (omega (arith, c.loop-j-test.true)) in
    rw e at (compared c.loop-j.invariant)

pub returns : goal.returns
returns c = (all_compared c.loop-j.invariant (omega arith)).0
