-- `blocks::write_fresh` meets its contract: the session's own bytes, then the table's room, and the whole block is written.
-- Assumes nothing.
use native.Mathlib.Omega.{arith}
use lib.ListN.{length-append, length-replicate}
use Rattle.kinds.proofs.Offset.{square_le}
use Rattle.joints.specs.Layout.{session_size}
use Rattle.joints.proofs.Written.{none_written, part_written, all_written}
use Rattle.joints.proofs.Fresh.{session_length}
use Rattle.blocks.specs.Layout.{table_room}
use borrow.Author.Rules.{rules}
use Rattle.blocks.proofs.write_fresh.Goals as goal

pub write_table-requires : goal.write_table-requires
write_table-requires c =
    let session = c in
    let sized = session.requires.fact_2 in
    (search rules, omega (arith, sized.size, square_le sized.high))

pub returns : goal.returns
returns c =
    let table = c in
    let session = table in
    let s = session in
    let sized = s.requires.fact_2 in
    let one =
    part_written (none_written s.args.block.now) session_size session.write_fresh.ensures
    (session_length s.args.n s.args.v s.requires.fact_3.1) in
    let two =
    part_written one table_room table.write_table.ensures
    (simp (length-append, length-replicate) (omega (arith, sized.size, square_le sized.high))) in
    all_written two (omega (arith, s.requires.fact_1))
