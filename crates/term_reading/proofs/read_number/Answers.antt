-- `term_reading::read_number` meets its contract: digit after digit, up to three.
-- Assumes nothing.
use native.Mathlib.Omega.{arith}
use Rattle.term_reading.proofs.Numbers.{zero_read, one_read, two_read, three_read}
use Rattle.term_reading.proofs.read_number.Goals as goal

pub returns-then-one-eq0 : goal.returns-then-one-eq0
returns-then-one-eq0 c = record { is = zero_read c.args.text.now c.args.at c.digit_at-one.ensures (omega (arith, c.if-one-eq0.true)) }

pub returns-then-not-is_digit_at-2 : goal.returns-then-not-is_digit_at-2
returns-then-not-is_digit_at-2 c =
    record { is = one_read c.args.text.now c.args.at c.digit_at-one.ensures c.if-one-eq0.false c.if-not-is_digit_at-2.ensures }

pub returns-then-not-is_digit_at-3 : goal.returns-then-not-is_digit_at-3
returns-then-not-is_digit_at-3 c =
    record {
      is =
          two_read c.args.text.now c.args.at c.digit_at-one.ensures c.if-one-eq0.false c.digit_at.ensures
          c.if-not-is_digit_at-3.ensures;
    }

pub returns : goal.returns
returns c =
    record {
      is =
          three_read c.args.text.now c.args.at c.digit_at-one.ensures c.if-one-eq0.false c.digit_at.ensures
          c.digit_at-2.ensures;
    }
