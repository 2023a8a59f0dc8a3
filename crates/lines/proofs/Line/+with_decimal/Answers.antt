-- `lines::Line::with_decimal` meets its contract: one digit, or the digits of a tenth and then the last.
-- Assumes nothing.
use Rattle.std.proofs.Common.{◌^◌, ◌<◌, ap, arith}
use native.Mathlib.Nat.{div-add-mod'}
use Rattle.lines.specs.declared.Line.{Line}
use Rattle.decimals.proofs.Decimals.{length_one, length_more}
use Rattle.lines.proofs.Puts.{one_put, last_put}
use Rattle.lines.proofs.Line.+with_decimal.Goals as goal

pub with_byte-requires : goal.with_byte-requires
with_byte-requires t c = omega (arith, c.requires, length_one c.args.x c.if-x-lt10.true)

pub returns-then-x-lt10 : goal.returns-then-x-lt10
returns-then-x-lt10 t c = one_put c.args.self c.args.x c.if-x-lt10.true c.digit.ensures c.with_byte.ensures

pub with_decimal-requires : goal.with_decimal-requires
with_decimal-requires t c =
    let d = div-add-mod' c.args.x 10 in
    let short : c.args.x < 10 ^ 10 = omega (arith, c.ranges.x) in
    (omega (arith, c.if-x-lt10.false, d), omega (arith, c.requires, c.if-x-lt10.false, length_more c.args.x c.if-x-lt10.false short))

pub with_byte-requires-2 : goal.with_byte-requires-2
with_byte-requires-2 t c =
    let short : c.args.x < 10 ^ 10 = omega (arith, c.ranges.x) in
    omega (arith, c.requires, ap (λ (l : Line). l.size) c.with_decimal.ensures, length_more c.args.x c.if-x-lt10.false short)

pub returns : goal.returns
returns t c =
    let short : c.args.x < 10 ^ 10 = omega (arith, c.ranges.x) in
    last_put c.args.self c.args.x c.if-x-lt10.false short c.with_decimal.ensures c.digit-2.ensures c.with_byte-2.ensures
