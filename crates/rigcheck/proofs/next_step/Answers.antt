-- `rigcheck::next_step` meets its contract: each return is the case of the tests before it.
-- Assumes nothing.
use Rattle.std.proofs.Common.{rules}
use Rattle.rigcheck.proofs.Steps.{at_end, is_cut, is_long, is_packet}
use Rattle.rigcheck.proofs.next_step.Goals as goal

pub returns-then-got-eq0 : goal.returns-then-got-eq0
returns-then-got-eq0 c = at_end c.args.got c.args.packet.now c.if-got-eq0.true

pub returns-then-got-lt2 : goal.returns-then-got-lt2
returns-then-got-lt2 c = is_cut c.args.got c.args.packet.now c.if-got-eq0.false c.if-got-lt2.true

pub returns-then-size-gt-LONGEST : goal.returns-then-size-gt-LONGEST
returns-then-size-gt-LONGEST c = is_long c.args.got c.args.packet.now c.if-got-eq0.false c.if-got-lt2.false (search rules)

pub returns : goal.returns
returns c =
    is_packet c.args.got c.args.packet.now c.if-got-eq0.false c.if-got-lt2.false
    (search rules)
    (search rules)
