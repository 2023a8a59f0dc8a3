-- `blocks::block::Block::of` meets its contract: each return is the case of the tests before it.
-- Assumes nothing.
use Rattle.std.proofs.Common.{◌≡◌, refl, sym, ◌∙◌, length}
use borrow.Author.Tests.{eqb-true, eqb-false}
use Rattle.blocks.specs.Layout.{block_size}
use Rattle.blocks.proofs.Shape.{wrong_size, not_well, all_well}
use Rattle.blocks.proofs.block.Block.of.Goals as goal

pub returns-then-not-has_size : goal.returns-then-not-has_size
returns-then-not-has_size c = wrong_size _ (eqb-false _ _ (sym c.has_size.ensures ∙ c.if-not-has_size.true))

pub returns-then-not-well_formed : goal.returns-then-not-well_formed
returns-then-not-well_formed c =
    let right_size : length c.args.bytes.now ≡ block_size = eqb-true _ _ (sym c.has_size.ensures ∙ c.if-not-has_size.false) in
    not_well _ right_size (sym c.well_formed-2.ensures ∙ c.if-not-well_formed.true)

pub returns : goal.returns
returns c =
    let right_size : length c.args.bytes.now ≡ block_size = eqb-true _ _ (sym c.has_size.ensures ∙ c.if-not-has_size.false) in
    (refl, all_well _ right_size (sym c.well_formed-2.ensures ∙ c.if-not-well_formed.false))
