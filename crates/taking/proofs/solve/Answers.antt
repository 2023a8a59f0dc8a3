-- `taking::solve` meets its contract: the answer of the solver, on the block's own form and table, stored.
-- Assumes nothing.
use mathlib.Core.Path.{◌≡◌, sym, ◌∙◌, ap, subst}
use mathlib.Core.List.{List, map}
use Prim.Native.Nat.{ℕ, ◌-◌, ◌≤◌}
use native.Mathlib.Omega.{arith}
use lib.ListN.{length}
use Rattle.std.specs.Prelude.{Ok}
use Rattle.kinds.specs.Kinds.{meet_at}
use Rattle.kinds.specs.Sizes.{Sized}
use Rattle.meaning.specs.Picture.{rename}
use Rattle.meaning.specs.Form.{classes}
use Rattle.meaning.specs.Solving.{rig_number, Taken}
use Rattle.meaning.specs.Asking.{Extends}
use Rattle.packets.specs.Facts.{rig_facts}
use Rattle.screening.specs.Screening.{packet_reply, facts_wanted}
use Rattle.solver.specs.Unpacked.{form_of, rows_size, Named, Ready, Stopped}
use Rattle.solver.proofs.Run.{classes_le}
use Rattle.solver.proofs.OneFact.{well_named}
use Rattle.joints.specs.Layout.{kinds_of, joints_of, classes_of, joint_kinds_of, rows_of, block_form, class_count}
use Rattle.blocks.proofs.Shape.{GoodBlock, block_sized}
use Rattle.blocks.proofs.Read.{Read, read_back, as_read}
use Rattle.taking.proofs.Taking.{taken_good}
use Rattle.taking.specs.Solve.{Solves}
use Rattle.taking.proofs.Solution.{unpacked_ready, taken_fewer, clash_outcome, done_outcome, at_error}
use borrow.Author.Rules.{rules}
use Rattle.taking.proofs.solve.Goals as goal

pub of-session-requires : goal.of-session-requires
of-session-requires c =
    let good : GoodBlock c.args.block.now = (taken_good c.args.block.now c.args.packet.now c.requires).0 in
    omega (arith, good.size)

pub classes_in-before-requires : goal.classes_in-before-requires
classes_in-before-requires c =
    let good : GoodBlock c.args.block.now = (taken_good c.args.block.now c.args.packet.now c.requires).0 in
    omega (arith, (c.from-v.ensures ∙ c.joint_count.ensures ∙ ap joints_of c.of-session.ensures), good.well.v_high, c.classes.ensures.size)

pub unpack-form-requires-clause-fact_1 : goal.unpack-form-requires-clause-fact_1
unpack-form-requires-clause-fact_1 c =
    let good : GoodBlock c.args.block.now = (taken_good c.args.block.now c.args.packet.now c.requires).0 in
    (omega (arith, good.well.v_high, (c.from-v.ensures ∙ c.joint_count.ensures ∙ ap joints_of c.of-session.ensures)), omega arith)

pub kind_table-entries-requires : goal.kind_table-entries-requires
kind_table-entries-requires c =
    let good : GoodBlock c.args.block.now = (taken_good c.args.block.now c.args.packet.now c.requires).0 in
    (good.size, good.well.n_high)

pub invariant_of-table : goal.invariant_of-table
invariant_of-table c =
    let good : GoodBlock c.args.block.now = (taken_good c.args.block.now c.args.packet.now c.requires).0 in
    let read : Read c.args.block.now c.from-n.result c.from-v.result c.kind_table-entries.result.now = record { kinds = (c.from-n.ensures ∙ c.kind_count.ensures ∙ ap kinds_of c.of-session.ensures); joints = (c.from-v.ensures ∙ c.joint_count.ensures ∙ ap joints_of c.of-session.ensures); table_is = c.kind_table-entries.ensures } in
    record { sized = as_read read (λ n v t. Sized n t) (block_sized good.well good.size) }

pub with_facts-taken-requires-clause-ready : goal.with_facts-taken-requires-clause-ready
with_facts-taken-requires-clause-ready c =
    let good : GoodBlock c.args.block.now = (taken_good c.args.block.now c.args.packet.now c.requires).0 in
    let read : Read c.args.block.now c.from-n.result c.from-v.result c.kind_table-entries.result.now = record { kinds = (c.from-n.ensures ∙ c.kind_count.ensures ∙ ap kinds_of c.of-session.ensures); joints = (c.from-v.ensures ∙ c.joint_count.ensures ∙ ap joints_of c.of-session.ensures); table_is = c.kind_table-entries.ensures } in
    let b = c.args.block.now in
    let S = form_of c.unpack-form.result c.unpack-form.new.rows in
    let unpacked : Extends (joints_of b) 0 (block_form b) S = subst (λ (v : ℕ). Extends v 0 (block_form b) S) (c.from-v.ensures ∙ c.joint_count.ensures ∙ ap joints_of c.of-session.ensures) (rw c.of-session.ensures at c.unpack-form.ensures.0) in
    let ready = unpacked_ready good unpacked in
    let named : Named c.unpack-form.result.top S =
    subst (λ (t : ℕ). Named t S) (sym (c.unpack-form.ensures.1 ∙ (c.from-v.ensures ∙ c.joint_count.ensures ∙ ap joints_of c.of-session.ensures))) (well_named good.well.v_low ready.well) in
    (as_read read (λ n v t. Ready n v t S) ready, named)

pub with_facts-taken-requires-clause-packet_value : goal.with_facts-taken-requires-clause-packet_value
with_facts-taken-requires-clause-packet_value c =
    let read : Read c.args.block.now c.from-n.result c.from-v.result c.kind_table-entries.result.now = record { kinds = (c.from-n.ensures ∙ c.kind_count.ensures ∙ ap kinds_of c.of-session.ensures); joints = (c.from-v.ensures ∙ c.joint_count.ensures ∙ ap joints_of c.of-session.ensures); table_is = c.kind_table-entries.ensures } in
    as_read read (λ n v t. packet_reply (facts_wanted v) n v c.args.packet.now ≡ Ok 0) (taken_good _ _ c.requires).1

pub returns-in_err-taken : goal.returns-in_err-taken
returns-in_err-taken c =
    let good : GoodBlock c.args.block.now = (taken_good c.args.block.now c.args.packet.now c.requires).0 in
    let read : Read c.args.block.now c.from-n.result c.from-v.result c.kind_table-entries.result.now = record { kinds = (c.from-n.ensures ∙ c.kind_count.ensures ∙ ap kinds_of c.of-session.ensures); joints = (c.from-v.ensures ∙ c.joint_count.ensures ∙ ap joints_of c.of-session.ensures); table_is = c.kind_table-entries.ensures } in
    let b = c.args.block.now in
    let S = form_of c.unpack-form.result c.unpack-form.new.rows in
    let unpacked : Extends (joints_of b) 0 (block_form b) S = subst (λ (v : ℕ). Extends v 0 (block_form b) S) (c.from-v.ensures ∙ c.joint_count.ensures ∙ ap joints_of c.of-session.ensures) (rw c.of-session.ensures at c.unpack-form.ensures.0) in
    let stop = rw c.in_err-taken.was at c.with_facts-taken.ensures in
    let stopped = read_back read (λ n v t. Stopped n (meet_at n t) v S (map (rename rig_number) (rig_facts c.args.packet.now)) c.in_err-taken.field-0.0) stop in
    let told = clash_outcome c.args.packet.now good unpacked stopped in
    at_error _ _ _ c.from_residual.ensures.1 (told.0, rw c.in_err-taken.was at c.store.ensures)

pub classes_in-requires : goal.classes_in-requires
classes_in-requires c =
    let good : GoodBlock c.args.block.now = (taken_good c.args.block.now c.args.packet.now c.requires).0 in
    let long : length c.with_facts-taken.new.form.class ≡ 96 = search rules in
    omega (arith, (c.from-v.ensures ∙ c.joint_count.ensures ∙ ap joints_of c.of-session.ensures), good.well.v_high, long)

pub overflow_sub-joins : goal.overflow_sub-joins
overflow_sub-joins c =
    let good : GoodBlock c.args.block.now = (taken_good c.args.block.now c.args.packet.now c.requires).0 in
    let read : Read c.args.block.now c.from-n.result c.from-v.result c.kind_table-entries.result.now = record { kinds = (c.from-n.ensures ∙ c.kind_count.ensures ∙ ap kinds_of c.of-session.ensures); joints = (c.from-v.ensures ∙ c.joint_count.ensures ∙ ap joints_of c.of-session.ensures); table_is = c.kind_table-entries.ensures } in
    let b = c.args.block.now in
    let S = form_of c.unpack-form.result c.unpack-form.new.rows in
    let unpacked : Extends (joints_of b) 0 (block_form b) S = subst (λ (v : ℕ). Extends v 0 (block_form b) S) (c.from-v.ensures ∙ c.joint_count.ensures ∙ ap joints_of c.of-session.ensures) (rw c.of-session.ensures at c.unpack-form.ensures.0) in
    let T = form_of c.with_facts-taken.new.form c.with_facts-taken.new.rows in
    let t = read_back read (λ n v t. Taken n (meet_at n t) v S (map (rename rig_number) (rig_facts c.args.packet.now)) T) (rw c.in_ok-taken.was at c.with_facts-taken.ensures) in
    let before : c.classes_in-before.result ≡ class_count b =
    rw ((c.from-v.ensures ∙ c.joint_count.ensures ∙ ap joints_of c.of-session.ensures), (c.classes.ensures.bytes ∙ ap classes_of c.of-session.ensures)) at (c.classes_in-before.ensures (joint_kinds_of b) (rows_of b)) in
    let after : c.classes_in.result ≡ classes T (joints_of b) = rw (c.from-v.ensures ∙ c.joint_count.ensures ∙ ap joints_of c.of-session.ensures) at (c.classes_in.ensures c.with_facts-taken.new.form.kind c.with_facts-taken.new.rows) in
    let fewer : classes T (joints_of b) ≤ class_count b = taken_fewer good unpacked (rig_facts c.args.packet.now) t in
    omega (arith, before, after, fewer)

pub store-requires : goal.store-requires
store-requires c =
    let long : (length c.with_facts-taken.new.form.class ≡ 96) × (length c.with_facts-taken.new.form.kind ≡ 96) = (search rules, search rules) in
    let good : GoodBlock c.args.block.now = (taken_good c.args.block.now c.args.packet.now c.requires).0 in
    (omega (arith, good.size), omega (arith, long), omega (arith, long))

pub overflow_cast-result : goal.overflow_cast-result
overflow_cast-result c =
    let good : GoodBlock c.args.block.now = (taken_good c.args.block.now c.args.packet.now c.requires).0 in
    let b = c.args.block.now in
    let before : c.classes_in-before.result ≡ class_count b =
    rw ((c.from-v.ensures ∙ c.joint_count.ensures ∙ ap joints_of c.of-session.ensures), (c.classes.ensures.bytes ∙ ap classes_of c.of-session.ensures)) at (c.classes_in-before.ensures (joint_kinds_of b) (rows_of b)) in
    omega (arith, before, classes_le (block_form b) (joints_of b), good.well.v_high)

pub returns : goal.returns
returns c =
    let long : (length c.with_facts-taken.new.form.class ≡ 96) × (length c.with_facts-taken.new.form.kind ≡ 96) = (search rules, search rules) in
    let good : GoodBlock c.args.block.now = (taken_good c.args.block.now c.args.packet.now c.requires).0 in
    let read : Read c.args.block.now c.from-n.result c.from-v.result c.kind_table-entries.result.now = record { kinds = (c.from-n.ensures ∙ c.kind_count.ensures ∙ ap kinds_of c.of-session.ensures); joints = (c.from-v.ensures ∙ c.joint_count.ensures ∙ ap joints_of c.of-session.ensures); table_is = c.kind_table-entries.ensures } in
    let b = c.args.block.now in
    let S = form_of c.unpack-form.result c.unpack-form.new.rows in
    let unpacked : Extends (joints_of b) 0 (block_form b) S = subst (λ (v : ℕ). Extends v 0 (block_form b) S) (c.from-v.ensures ∙ c.joint_count.ensures ∙ ap joints_of c.of-session.ensures) (rw c.of-session.ensures at c.unpack-form.ensures.0) in
    let T = form_of c.with_facts-taken.new.form c.with_facts-taken.new.rows in
    let t = read_back read (λ n v t. Taken n (meet_at n t) v S (map (rename rig_number) (rig_facts c.args.packet.now)) T) (rw c.in_ok-taken.was at c.with_facts-taken.ensures) in
    let before : c.classes_in-before.result ≡ class_count b =
    rw ((c.from-v.ensures ∙ c.joint_count.ensures ∙ ap joints_of c.of-session.ensures), (c.classes.ensures.bytes ∙ ap classes_of c.of-session.ensures)) at (c.classes_in-before.ensures (joint_kinds_of b) (rows_of b)) in
    let after : c.classes_in.result ≡ classes T (joints_of b) = rw (c.from-v.ensures ∙ c.joint_count.ensures ∙ ap joints_of c.of-session.ensures) at (c.classes_in.ensures c.with_facts-taken.new.form.kind c.with_facts-taken.new.rows) in
    let f = c.with_facts-taken.new.form in
    let r = c.with_facts-taken.new.rows in
    let lr : length r ≡ rows_size = search rules in
    subst (λ (made : List ℕ). Solves b c.args.packet.now (Ok (c.classes_in-before.result - c.classes_in.result)) made) (sym (rw c.in_ok-taken.was at c.store.ensures))
    (done_outcome c.args.packet.now good unpacked f.class f.kind r long.0 long.1 lr t before after)
