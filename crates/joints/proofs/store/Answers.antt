-- `joints::store` meets its contract: three parts are written behind its first two bytes, one after the other.
-- Assumes nothing.
use mathlib.Core.Path.{◌∙◌}
use mathlib.Core.List.{◌++◌, append_assoc}
use native.Mathlib.Omega.{arith}
use lib.ListN.{take, drop}
use lib.Seq.{length-take-le}
use Rattle.joints.specs.Layout.{session_size}
use Rattle.joints.proofs.Written.{two_kept, part_written, regroup}
use Rattle.joints.proofs.store.Goals as goal

pub copy_from_slice-requires-3 : goal.copy_from_slice-requires-3
copy_from_slice-requires-3 c = omega (arith, length-take-le 1024 c.args.rows.now c.requires.fact_2.2)

pub returns : goal.returns
returns c =
    let s = c.args.session.now in
    -- what is put in has the length of its part
    let classes = take 64 c.args.classes.now in
    let kinds = take 64 c.args.kinds.now in
    let rows = take 1024 c.args.rows.now in
    let one = part_written (two_kept s (omega (arith, c.requires.fact_1))) 64 c.copy_from_slice.ensures.after (length-take-le 64 c.args.classes.now c.requires.fact_2.0) in
    let two = part_written one 64 c.copy_from_slice-2.ensures.after (length-take-le 64 c.args.kinds.now c.requires.fact_2.1) in
    let three = part_written two 1024 c.copy_from_slice-3.ensures.after (length-take-le 1024 c.args.rows.now c.requires.fact_2.2) in
    let front = take 2 s in
    let rest = drop session_size s in
    three.is ∙ append_assoc ((front ++ classes) ++ kinds) rows rest ∙ regroup front classes kinds (rows ++ rest)
