-- `join_step` meets its contract: the meet of the two kinds decides, the rows read give the new pairs, and the classes are joined.
-- Assumes nothing.
use mathlib.Core.Path.{◌∙◌}
use Rattle.solver.proofs.Run.{pushed_along}
use Rattle.solver.proofs.join_step.Goals as goal

pub returns : goal.returns
returns c =
    let met = c.meet-k.ensures in
    record {
      some = λ z. c.if-k-eq0.false (met ∙ z);
      joined = rw met at c.join_two.ensures;
      pushed = pushed_along c.row_of-x.ensures c.row_of-y.ensures c.pushed-count.ensures;
    }
