-- `blocks::block::Block::kind_count` meets its contract: a well-formed block has its number in range.
-- Assumes nothing.
use Rattle.std.proofs.Common.{◌≡◌, ap, ◌∙◌, arith}
use Rattle.joints.specs.Layout.{kinds_of}
use Rattle.blocks.proofs.Shape.{taken_apart}
use Rattle.blocks.proofs.block.Block.kind_count.Goals as goal

pub returns-clause-in_range : goal.returns-clause-in_range
returns-clause-in_range c =
    let w = taken_apart c.self.inside.bytes.now c.self.invariant.1 in
    let e : c.from.result ≡ kinds_of c.self.inside.bytes.now = c.from.ensures ∙ c.kind_count.ensures ∙ ap kinds_of c.of.ensures in
    (omega (arith, e, w.n_low), omega (arith, e, w.n_high))
