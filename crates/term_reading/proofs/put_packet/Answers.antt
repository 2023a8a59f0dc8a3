-- `term_reading::put_packet` meets its contract: each return is a reply of the term, in their order.
-- Assumes nothing.
use native.Mathlib.Omega.{arith}
use mathlib.Core.Path.{ap}
use Prim.Native.Nat.{◌+◌, ◌*◌}
use lib.ListN.{take}
use Rattle.term_reading.proofs.Answers.{out_of_range, too_many, put}
use Rattle.term_reading.proofs.put_packet.Goals as goal

pub returns-in-Some : goal.returns-in-Some
returns-in-Some c = let a = c.args in out_of_range a.end a.v a.packet.now a.out.now c.in-Some.is

pub returns-then-facts-gt-MOST_FACTS : goal.returns-then-facts-gt-MOST_FACTS
returns-then-facts-gt-MOST_FACTS c =
    let a = c.args in
    too_many a.end a.v a.packet.now a.out.now c.in_default.is (omega (arith, c.if-facts-gt-MOST_FACTS.true))

pub returns : goal.returns
returns c =
    let out = c.put_out in
    let a = c.args in
    put a.end a.v a.packet.now a.out.now c.in_default.is (omega (arith, c.if-facts-gt-MOST_FACTS.false))
    (ap (take (6 + 4 * a.end.facts)) c.put_header.ensures) out.ensures.0 out.ensures.1
