-- `reach::Rule::reached_joints` meets its contract: the joint whose row is followed next is marked, and was not followed.
-- Assumes nothing.
use native.Mathlib.Omega.{arith}
use borrow.Author.Rules.{rules}
use Rattle.reach.proofs.Bits.{xor_left}
use Rattle.reach.proofs.Marking.{follow_goes_on, follow_ends, with_more}
use Rattle.reach.proofs.Rule.reached_joints.Goals as goal

pub loop-to-smaller : goal.loop-to-smaller
loop-to-smaller c =
    let l = c.loop-to in
    let next = xor_left l.marks.0 l.followed.0 c.first-j.result (l.invariant.inside _) c.first-j.ensures.1 in
    omega (arith, with_more c.with-followed.ensures next.1, c.with-followed.ensures.bits)

pub loop-to-preserved : goal.loop-to-preserved
loop-to-preserved c =
    let l = c.loop-to in
    let next = xor_left l.marks.0 l.followed.0 c.first-j.result (l.invariant.inside _) c.first-j.ensures.1 in
    follow_goes_on l.invariant next.0 c.with-followed.ensures

pub returns : goal.returns
returns c = follow_ends c.loop-to.invariant (search rules)
