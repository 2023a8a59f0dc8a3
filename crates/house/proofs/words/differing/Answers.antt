-- `house::words::differing` meets its contract. At i, the bits in which the words before the i-th differ are gathered.
-- Assumes nothing.
use Rattle.std.proofs.Common.{arith}
use Rattle.house.proofs.Bytes.{none_read, more_read}
use Rattle.house.proofs.words.differing.Goals as goal

pub loop-i-init : goal.loop-i-init
loop-i-init c = none_read c.requires

pub loop-i-preserved : goal.loop-i-preserved
loop-i-preserved c = more_read c.loop-i.invariant c.word_at.result (omega arith) c.word_at.ensures
