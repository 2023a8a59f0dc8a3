-- `blocks::block::Block::kind_table` meets its contract: a well-formed block has a table of its n kinds.
-- Assumes nothing.
use Rattle.blocks.proofs.Shape.{taken_apart, block_sized}
use Rattle.blocks.proofs.block.Block.kind_table.Goals as goal

pub kind_table-requires : goal.kind_table-requires
kind_table-requires c = (c.self.invariant.0, (taken_apart c.self.inside.bytes.now c.self.invariant.1).n_high)

pub invariant_of-result : goal.invariant_of-result
invariant_of-result c =
    let sized = block_sized (taken_apart c.self.inside.bytes.now c.self.invariant.1) c.self.invariant.0 in
    record { sized = rw (c.kind_table.ensures, c.kind_count.ensures.count, ← c.self.view_is) sized }
