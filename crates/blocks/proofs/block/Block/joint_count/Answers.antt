-- `blocks::block::Block::joint_count` meets its contract: a well-formed block has its number in range.
-- Assumes nothing.
use Rattle.std.proofs.Common.{◌≡◌, ap, ◌∙◌, arith}
use Rattle.joints.specs.Layout.{joints_of}
use Rattle.blocks.proofs.Shape.{taken_apart}
use Rattle.blocks.proofs.block.Block.joint_count.Goals as goal

pub returns-clause-in_range : goal.returns-clause-in_range
returns-clause-in_range c =
    let w = taken_apart c.self.inside.bytes.now c.self.invariant.1 in
    let e : c.from.result ≡ joints_of c.self.inside.bytes.now = c.from.ensures ∙ c.joint_count.ensures ∙ ap joints_of c.of.ensures in
    (omega (arith, e, w.v_low), omega (arith, e, w.v_high))
