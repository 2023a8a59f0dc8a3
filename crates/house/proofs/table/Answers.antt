-- `house::table` meets its contract: its bytes are the table of specs/.
-- Assumes nothing.
use mathlib.Core.Path.{refl}
use Rattle.house.specs.Meets.{house_table}
use Rattle.house.proofs.table.Goals as goal

pub returns : goal.returns
unfolding house_table
returns c = refl
