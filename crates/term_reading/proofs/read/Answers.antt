-- `term_reading::read` meets its contract: replies 1 and 4, then what the text becomes.
-- Assumes nothing.
use mathlib.Core.Path.{refl}
use native.Mathlib.Omega.{arith}
use Rattle.replies.proofs.Laws.{stopped, handed_back}
use Rattle.term_reading.proofs.Answers.{too_long, bad_block, answered}
use Rattle.term_reading.proofs.read.Goals as goal

pub returns-then-text-gt-LONGEST_TEXT : goal.returns-then-text-gt-LONGEST_TEXT
returns-then-text-gt-LONGEST_TEXT c = let a = c.args in too_long a.block.now a.text.now a.out.now (omega (arith, c.if-text-gt-LONGEST_TEXT.true))

pub returns-in_err-block : goal.returns-in_err-block
returns-in_err-block c =
    let a = c.args in
    bad_block a.block.now a.text.now a.out.now (omega (arith, c.if-text-gt-LONGEST_TEXT.false))
    (handed_back refl c.in_err-block.ensures c.from_residual.ensures.1) (stopped refl c.in_err-block.ensures)

pub returns : goal.returns
returns c =
    let a = c.args in
    answered a.block.now a.text.now a.out.now (omega (arith, c.if-text-gt-LONGEST_TEXT.false)) c.in_ok-block.ensures.1
    (rw c.in_ok-block.ensures.0 at c.read_packet.ensures)
