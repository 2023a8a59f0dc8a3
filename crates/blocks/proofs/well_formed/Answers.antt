-- `blocks::well_formed` meets its contract: the table's room, then the session's own bytes, for the n that was read.
-- Assumes nothing.
use Rattle.std.proofs.Common.{◌≡◌, ℕ, Bool, ◌&&◌, List, length, take, refl, ap, ◌∙◌, arith, length-drop, take_all, rules}
use borrow.Author.Tests.{tests}
use Rattle.joints.specs.Layout.{session_size, kinds_of}
use Rattle.fitting.specs.Fits.{joints_fit}
use Rattle.blocks.specs.Layout.{block_size, table_room, room_of}
use Rattle.blocks.specs.WellFormed.{table_fits, well_formed}
use Rattle.blocks.proofs.well_formed.Goals as goal

-- the answers to both tests for the n that was read are those for the n that stands in the block
both_read :
    (b : List ℕ) {s : List ℕ} {n : ℕ} {t j r : Bool} → length b ≡ block_size → s ≡ b → n ≡ kinds_of s
    → t ≡ table_fits n (take table_room (room_of b)) → j ≡ joints_fit n s → r ≡ (t && j) → r ≡ well_formed b
both_read b size e q f g h =
    let m : _ ≡ kinds_of b = q ∙ ap kinds_of e in
    let room = take_all table_room (room_of b) (omega (arith, size, length-drop session_size b)) in
    h ∙ rw (f, g, room, m, e) refl

pub returns-then-table_fits : goal.returns-then-table_fits
returns-then-table_fits c =
    both_read c.args.block.now c.requires c.of-session.ensures (c.from-n.ensures ∙ c.kind_count.ensures) c.table_fits.ensures c.joints_fit.ensures
    (search (rules, tests))

pub returns-else-table_fits : goal.returns-else-table_fits
returns-else-table_fits c =
    both_read c.args.block.now c.requires c.of-session.ensures (c.from-n.ensures ∙ c.kind_count.ensures) c.table_fits.ensures refl
    (search (rules, tests))
