-- `house::words::word_of` meets its contract: a number has the bytes that it is read from.
-- Assumes nothing.
use Rattle.std.proofs.Common.{rules}
use Rattle.std.proofs.lemmas.Nat.{le_bytes_8}
use Rattle.house.proofs.words.word_of.Goals as goal

pub returns : goal.returns
returns c = le_bytes_8 c.args.eight _ (search rules) (search rules) c.from_le_bytes.ensures
