-- `term_reading::read_whole` meets its contract: the outermost term, and nothing behind it.
-- Assumes nothing.
use native.Mathlib.Omega.{arith}
use Rattle.term_reading.proofs.Contexts.{outermost}
use Rattle.term_reading.proofs.Answers.{whole_read, more_behind, byte_is_no_end}
use Rattle.term_reading.proofs.read_whole.Goals as goal

pub read_term-requires : goal.read_term-requires
read_term-requires c =
    (record { long = c.requires; inside = omega arith; few = omega arith }, outermost c.args.text.now)

pub returns-then-end-text : goal.returns-then-end-text
returns-then-end-text c =
    record {
      is =
          more_behind c.in_ok-end.ensures.is (omega (arith, c.if-end-text.true))
          (byte_is_no_end c.args.text.now _ (omega (arith, c.if-end-text.true)) (c.type_inv.text _).fits);
    }

pub returns : goal.returns
returns c = record { is = whole_read c.in_ok-end.ensures.is (omega (arith, c.if-end-text.false)) }
