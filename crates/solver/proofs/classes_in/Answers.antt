-- `classes_in` meets its contract: at each turn the count is that of the nodes so far.
-- Assumes nothing.
use mathlib.Core.Path.{sym}
use mathlib.Core.List.{[]}
use Rattle.meaning.specs.Form.{list_form}
use Rattle.solver.proofs.Run.{classes_none, classes_le}
use Rattle.solver.proofs.Counting.{one_counted, at_most_one}
use native.Mathlib.Omega.{arith}
use Rattle.solver.proofs.classes_in.Goals as goal

pub loop-j-init : goal.loop-j-init
loop-j-init c = (omega arith, λ kind rows. sym (classes_none (list_form c.args.class.now kind rows)))

pub overflow_add-count : goal.overflow_add-count
overflow_add-count c =
    let l = c.loop-j in
    omega (arith, l.invariant.1 [] [], classes_le (list_form c.args.class.now [] []) l.j, at_most_one _ _ c.from-count.ensures)

pub loop-j-preserved : goal.loop-j-preserved
loop-j-preserved c =
    let l = c.loop-j in
    (omega arith, λ kind rows. rw (l.invariant.1 kind rows) (sym (one_counted (list_form c.args.class.now kind rows) l.j _ c.from-count.ensures)))
