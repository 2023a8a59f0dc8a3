-- `joints::write_fresh` meets its contract: part by part, until all the bytes are written.
-- Assumes nothing.
use mathlib.Core.Path.{refl, ap, ◌∙◌}
use mathlib.Core.List.{[], ◌∷◌, ◌++◌}
use Prim.Native.Nat.{ℕ}
use native.Mathlib.Omega.{arith}
use lib.ListN.{length-append, length-replicate}
use Rattle.runs.proofs.Each.{each_length}
use Rattle.joints.specs.Fresh.{own_classes, any_kinds, no_links}
use Rattle.joints.proofs.Written.{none_written, part_written, all_written, regroup}
use Rattle.joints.proofs.write_fresh.Goals as goal

pub returns : goal.returns
returns c =
    let v = c.from-joints.result in
    let one = part_written (none_written c.args.session.now) 2 c.copy_from_slice.ensures.after refl in
    let two = part_written one 64 c.write_classes.ensures (each_length _ 0 64) in
    let three = part_written two 64 c.write_kinds.ensures (each_length _ 0 64) in
    let four =
    part_written three 1024 c.write_rows.ensures
    (simp (length-append, length-replicate) (omega (arith, c.requires.1, c.from-joints.ensures))) in
    all_written four (omega (arith, c.requires.0)) ∙ regroup (c.args.n ∷ c.args.v ∷ []) (own_classes v) (any_kinds v) (no_links v)
    ∙ ap (λ (w : ℕ). c.args.n ∷ c.args.v ∷ (own_classes w ++ (any_kinds w ++ no_links w))) c.from-joints.ensures
