-- `tables::first_triple` meets its contract. At i, j, k, the reply is that to the triples to look at of i, j from k on, then to those of i after
-- j, then to those after i.
-- Assumes nothing.
use mathlib.Core.Path.{sym, ap, ◌∙◌}
use native.Mathlib.Omega.{arith}
use Rattle.replies.specs.Replies.{refuses}
use Rattle.tables.proofs.Scan.{passed, failed, kept, broken, closes}
use Rattle.tables.proofs.LookedAt.{first_loop, first_ends, middle_loop, last_loop, one_law}
use Rattle.tables.proofs.first_triple.Goals as goal

pub loop-i-init : goal.loop-i-init
loop-i-init c = (omega arith, omega (arith, c.args.kinds.table.sized.low), first_loop _ _ c.args.kinds.table.sized.low)

pub loop-j-init : goal.loop-j-init
loop-j-init c = (omega arith, middle_loop c.loop-i.invariant.2 c.args.kinds.table.sized.low (omega arith))

pub loop-k-init : goal.loop-k-init
loop-k-init c = (omega arith, last_loop c.loop-j.invariant.1 (omega arith) (omega arith))

pub loop-k-preserved : goal.loop-k-preserved
loop-k-preserved c = let at = c.loop-k.invariant in (
  omega arith,
  kept at.1 (omega arith) (one_law c.loop-i.invariant.0 c.loop-j.invariant.0 at.0)
      (ap refuses c.groups.ensures ∙ passed _ _ c.if-not-groups.false),
)

pub loop-j-preserved : goal.loop-j-preserved
loop-j-preserved c = (omega arith, record { is = closes c.loop-k.invariant.1 (omega arith) })

pub loop-i-preserved : goal.loop-i-preserved
loop-i-preserved c = (omega arith, c.loop-i.invariant.1, record { is = closes c.loop-j.invariant.1 (omega arith) })

pub returns-then-not-groups : goal.returns-then-not-groups
returns-then-not-groups c = let at = c.loop-k.invariant in
    c.broken.ensures
    ∙ sym (broken at.1 (omega arith) (one_law c.loop-i.invariant.0 c.loop-j.invariant.0 at.0)
    (c.groups.ensures ∙ failed _ _ c.if-not-groups.true))

pub returns-after-loop-i : goal.returns-after-loop-i
returns-after-loop-i c = let at = c.loop-i.invariant in sym (first_ends at.2 (omega (arith, at.1)))
