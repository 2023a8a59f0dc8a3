-- `reach::Marks::first` meets its contract: where the closing zeros of a number end, it has a bit.
-- Assumes nothing.
use borrow.Author.Rules.{rules}
use Rattle.reach.proofs.Bits.{lowest}
use Rattle.reach.proofs.Marks.first.Goals as goal

pub returns : goal.returns
returns c = lowest 32 c.args.self.0 c.requires (search rules)
