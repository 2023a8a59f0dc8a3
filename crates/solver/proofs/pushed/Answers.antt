-- `pushed` meets its contract: one link more at each turn of the loop.
-- Assumes nothing.
use mathlib.Core.Path.{◌≡◌, ◌∙◌, ap}
use Rattle.std.specs.Int.{from_bool}
use lib.ListN.{length-set}
use Rattle.solver.proofs.Run.{pushed_more}
use native.Mathlib.Omega.{arith}
use Rattle.solver.proofs.pushed.Goals as goal

pub loop-l-preserved : goal.loop-l-preserved
loop-l-preserved c =
    let L = c.loop-l in
    let most = L.invariant.2.most in (
      omega arith,
      simp length-set L.invariant.1,
      rw (c.from-count.ensures ∙ ap from_bool c.both_known.ensures)
          (pushed_more _ _ _ _ _ _ _ (omega (arith, most)) L.invariant.2),
    )

pub returns : goal.returns
returns c =
    let L = c.loop-l in
    let e : L.l ≡ 16 = omega arith in
    rw e at L.invariant.2
