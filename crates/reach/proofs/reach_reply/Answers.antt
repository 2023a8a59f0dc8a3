-- `reach::reach_reply` meets its contract: the marked joints are the reached ones.
-- Assumes nothing.
use native.Mathlib.Omega.{arith}
use Rattle.meaning.specs.Rule.{rule_joint}
use Rattle.reach.proofs.Reached.{smallest_same}
use Rattle.reach.proofs.RulePacket.{rule_well}
use Rattle.reach.proofs.Marking.{complete}
use Rattle.reach.proofs.reach_reply.Goals as goal

pub of-requires : goal.of-requires
of-requires c = (rule_well c.requires).whole.header

pub first_unmarked-requires : goal.first_unmarked-requires
first_unmarked-requires c = omega (arith, (rule_well c.requires).joints_to, rw c.of.ensures at c.joint_count.ensures.0)

pub returns : goal.returns
returns c =
    let p = c.args.packet.now in
    let z = rw c.of.ensures at c.reached_joints.ensures in
    smallest_same (λ j h m. z.sound.reached j m) (λ j h r. complete p z (rule_joint j) r)
    (rw (c.joint_count.ensures.0, c.of.ensures) at c.first_unmarked.ensures)
