-- `tables::check` meets its contract: a lawful table passes, and any other is looked at in order.
-- Assumes nothing.
use mathlib.Core.Path.{sym}
use native.Mathlib.Omega.{arith}
use Rattle.tables.proofs.Lawfulness.{lawful_passes}
use Rattle.tables.proofs.check.Goals as goal

pub returns-then-lawful : goal.returns-then-lawful
returns-then-lawful c = sym (lawful_passes _ _ (omega (arith, c.args.table.sized.low)) (c.lawful.ensures c.if-lawful.true))
