-- `term_writing::put_number` meets its contract: one digit, or that of the tens and the last.
-- Assumes nothing.
use Rattle.std.proofs.Common.{length, ap, arith}
use Rattle.term_writing.proofs.Texts.{put_as, one_sign, two_signs}
use Rattle.term_writing.proofs.put_number.Goals as goal

pub put-requires : goal.put-requires
put-requires c =
    omega (arith, c.requires.1, ap length (one_sign {a = c.digit-last.result} c.args.x c.if-x-lt10.true (omega arith)))

pub returns-then-x-lt10 : goal.returns-then-x-lt10
returns-then-x-lt10 c = put_as (one_sign c.args.x c.if-x-lt10.true (omega arith)) c.put.ensures

pub put-requires-2 : goal.put-requires-2
put-requires-2 c =
    let said = two_signs {a = c.digit.result} {b = c.digit-last.result} c.args.x c.if-x-lt10.false c.requires.0 (omega arith) (omega arith) in
    omega (arith, c.requires.1, ap length said)

pub returns : goal.returns
returns c = put_as (two_signs c.args.x c.if-x-lt10.false c.requires.0 (omega arith) (omega arith)) c.put-2.ensures
