-- `writing::write` meets its contract: the reply to the block where it refuses, otherwise the form is put into the output.
-- Assumes nothing.
use Rattle.std.proofs.Common.{refl, sym, ◌∙◌}
use Rattle.replies.proofs.Laws.{stopped, handed_back}
use Rattle.writing.proofs.Writing.{block_refuses, unwritten}
use Rattle.writing.proofs.write.Goals as goal

pub returns-in_err-block : goal.returns-in_err-block
returns-in_err-block c =
    let refused = stopped refl c.in_err-block.ensures in
    (handed_back refl c.in_err-block.ensures c.from_residual.ensures.1 ∙ sym (block_refuses _ _ refused), unwritten _ _ refused)
