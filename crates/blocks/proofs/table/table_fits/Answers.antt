-- `blocks::table::table_fits` meets its contract: the clauses in their order.
-- Assumes nothing.
-- n is in range, so that its square has room
use mathlib.Core.Path.{ap, ◌∙◌}
use Prim.Native.Nat.{◌-◌, ◌*◌}
use native.Mathlib.Omega.{arith}
use lib.ListN.{length, drop, length-drop}
use lib.Seq.{take_all}
use borrow.Author.Rules.{rules}
use borrow.Author.Tests.{tests}
use Rattle.replies.proofs.Laws.{passing}
use Rattle.runs.specs.Runs.{all_zero}
use Rattle.blocks.specs.WellFormed.{table_fits}
use Rattle.blocks.proofs.table.table_fits.Goals as goal

pub returns-then-not-contains : goal.returns-then-not-contains
unfolding table_fits
returns-then-not-contains c = search (rules, tests)

pub returns-else-is_ok : goal.returns-else-is_ok
unfolding table_fits
returns-else-is_ok c = let passes = passing c.check.ensures c.is_ok.ensures.value in search (rules, tests)

pub returns-then-is_ok : goal.returns-then-is_ok
unfolding table_fits
returns-then-is_ok c =
    let a = c.args in
    let passes = passing c.check.ensures c.is_ok.ensures.value in
    let rest = c.is_zero.ensures ∙ ap all_zero (take_all (length a.room.now - a.n * a.n) (drop (a.n * a.n) a.room.now) (omega (arith, length-drop (a.n * a.n) a.room.now))) in
    search (rules, tests)
