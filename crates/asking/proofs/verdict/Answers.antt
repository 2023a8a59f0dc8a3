-- `asking::verdict` meets its contract: what the rule's ties and facts come to, taken behind the block's form, is the verdict.
-- Assumes nothing.
use mathlib.Core.Path.{◌≡◌, sym, ◌∙◌, ap, subst}
use Prim.Native.Nat.{ℕ, ◌+◌}
use native.Mathlib.Omega.{arith}
use Rattle.std.specs.Prelude.{Ok}
use Rattle.kinds.specs.Kinds.{meet_at}
use Rattle.meaning.specs.Solving.{Taken, Refuted}
use Rattle.meaning.specs.Asking.{rule_node_facts, Extends, Settled}
use Rattle.packets.specs.Packet.{joints}
use Rattle.packets.specs.Facts.{rule_of}
use Rattle.screening.specs.Screening.{packet_reply, rule_wanted}
use Rattle.solver.specs.Unpacked.{form_of, Named, Ready}
use Rattle.solver.proofs.Takes.{refuted_of, taken_of}
use Rattle.joints.specs.Layout.{joints_of, block_form}
use Rattle.blocks.proofs.Read.{Read, read_back, as_read}
use Rattle.asking.proofs.Asking.{Asked, asked, asked_rule, asked_nodes, asked_ready, asked_named, Tells, ruled_out, applies, waits}
use Rattle.asking.proofs.verdict.Goals as goal

pub bounds-packet-5 : goal.bounds-packet-5
bounds-packet-5 c =
    let start : Asked c.args.block.now c.args.packet.now = asked _ _ c.requires.packet_value in
    omega (arith, (asked_rule start).whole.header)

pub unpack-form-requires-clause-fact_1 : goal.unpack-form-requires-clause-fact_1
unpack-form-requires-clause-fact_1 c =
    let start : Asked c.args.block.now c.args.packet.now = asked _ _ c.requires.packet_value in
    let g = start.good in
    (omega (arith, g.well.v_high, c.from-joints.ensures ∙ c.joint_count-v.ensures ∙ ap joints_of c.session-session.ensures), omega (arith, c.from-k.ensures, (asked_rule start).joints_to))

-- no row names a joint of the rule
pub with_rule-requires-clause-ready : goal.with_rule-requires-clause-ready
with_rule-requires-clause-ready c =
    let start : Asked c.args.block.now c.args.packet.now = asked _ _ c.requires.packet_value in
    let b = c.args.block.now in
    let p = c.args.packet.now in
    let S = form_of c.unpack-form.result c.unpack-form.new.rows in
    let unpacked : Extends (joints_of b) (joints p) (block_form b) S =
    rw (c.from-joints.ensures ∙ c.joint_count-v.ensures ∙ ap joints_of c.session-session.ensures, c.from-k.ensures, c.session-session.ensures) at c.unpack-form.ensures.0 in
    let read : Read b c.kind_table.result.n c.joint_count-v.result c.kind_table.result.entries.now =
    record { kinds = c.kind_table.ensures.0; joints = c.joint_count-v.ensures ∙ ap joints_of c.session-session.ensures; table_is = c.kind_table.ensures.1 } in
    let named : Named c.unpack-form.result.top S =
    subst (λ (t : ℕ). Named t S) (sym (c.unpack-form.ensures.1 ∙ c.from-joints.ensures ∙ c.joint_count-v.ensures ∙ ap joints_of c.session-session.ensures)) (asked_named start unpacked) in
    (as_read read (λ n v t. Ready n (v + joints p) t S) (asked_ready start unpacked), named)

pub with_rule-requires-clause-packet_value : goal.with_rule-requires-clause-packet_value
with_rule-requires-clause-packet_value c =
    let start : Asked c.args.block.now c.args.packet.now = asked _ _ c.requires.packet_value in
    let b = c.args.block.now in
    let p = c.args.packet.now in
    let read : Read b c.kind_table.result.n c.joint_count-v.result c.kind_table.result.entries.now =
    record { kinds = c.kind_table.ensures.0; joints = c.joint_count-v.ensures ∙ ap joints_of c.session-session.ensures; table_is = c.kind_table.ensures.1 } in
    as_read read (λ n v t. packet_reply rule_wanted n v p ≡ Ok 0) start.rule

-- the ties and facts are taken by the block's own table
pub returns-then-is_err : goal.returns-then-is_err
returns-then-is_err c =
    let start : Asked c.args.block.now c.args.packet.now = asked _ _ c.requires.packet_value in
    let b = c.args.block.now in
    let p = c.args.packet.now in
    let S = form_of c.unpack-form.result c.unpack-form.new.rows in
    let unpacked : Extends (joints_of b) (joints p) (block_form b) S =
    rw (c.from-joints.ensures ∙ c.joint_count-v.ensures ∙ ap joints_of c.session-session.ensures, c.from-k.ensures, c.session-session.ensures) at c.unpack-form.ensures.0 in
    let read : Read b c.kind_table.result.n c.joint_count-v.result c.kind_table.result.entries.now =
    record { kinds = c.kind_table.ensures.0; joints = c.joint_count-v.ensures ∙ ap joints_of c.session-session.ensures; table_is = c.kind_table.ensures.1 } in
    ruled_out start unpacked
    (read_back read (λ n v t. Refuted n (meet_at n t) (v + joints p) S (rule_node_facts v (rule_of p)))
    (refuted_of _ c.with_rule.result _ (sym c.is_err.ensures.value ∙ c.if-is_err.true) c.with_rule.ensures))

pub settled-requires : goal.settled-requires
settled-requires c =
    let start : Asked c.args.block.now c.args.packet.now = asked _ _ c.requires.packet_value in
    let v = c.from-joints.ensures ∙ c.joint_count-v.ensures ∙ ap joints_of c.session-session.ensures in
    (omega (arith, start.good.well.v_high, v), omega (arith, asked_nodes start, v, c.from-k.ensures))

-- whether the rule is settled, for the V of the block
pub returns-then-settled : goal.returns-then-settled
returns-then-settled c =
    let start : Asked c.args.block.now c.args.packet.now = asked _ _ c.requires.packet_value in
    let b = c.args.block.now in
    let p = c.args.packet.now in
    let S = form_of c.unpack-form.result c.unpack-form.new.rows in
    let unpacked : Extends (joints_of b) (joints p) (block_form b) S =
    rw (c.from-joints.ensures ∙ c.joint_count-v.ensures ∙ ap joints_of c.session-session.ensures, c.from-k.ensures, c.session-session.ensures) at c.unpack-form.ensures.0 in
    let read : Read b c.kind_table.result.n c.joint_count-v.result c.kind_table.result.entries.now =
    record { kinds = c.kind_table.ensures.0; joints = c.joint_count-v.ensures ∙ ap joints_of c.session-session.ensures; table_is = c.kind_table.ensures.1 } in
    let T = form_of c.with_rule.new.form c.with_rule.new.rows in
    let took =
    read_back read (λ n v t. Taken n (meet_at n t) (v + joints p) S (rule_node_facts v (rule_of p)) T)
    (taken_of _ c.with_rule.result _ (sym c.is_err.ensures.value ∙ c.if-is_err.false) c.with_rule.ensures) in
    let settled_so : Tells c.settled.result (Settled (joints_of b) (joints p) (block_form b) T) =
    rw (c.from-joints.ensures ∙ c.joint_count-v.ensures ∙ ap joints_of c.session-session.ensures, c.from-k.ensures, c.session-session.ensures) at c.settled.ensures in
    applies start unpacked took (settled_so.0 c.if-settled.true)

pub returns : goal.returns
returns c =
    let start : Asked c.args.block.now c.args.packet.now = asked _ _ c.requires.packet_value in
    let b = c.args.block.now in
    let p = c.args.packet.now in
    let S = form_of c.unpack-form.result c.unpack-form.new.rows in
    let unpacked : Extends (joints_of b) (joints p) (block_form b) S =
    rw (c.from-joints.ensures ∙ c.joint_count-v.ensures ∙ ap joints_of c.session-session.ensures, c.from-k.ensures, c.session-session.ensures) at c.unpack-form.ensures.0 in
    let read : Read b c.kind_table.result.n c.joint_count-v.result c.kind_table.result.entries.now =
    record { kinds = c.kind_table.ensures.0; joints = c.joint_count-v.ensures ∙ ap joints_of c.session-session.ensures; table_is = c.kind_table.ensures.1 } in
    let T = form_of c.with_rule.new.form c.with_rule.new.rows in
    let took =
    read_back read (λ n v t. Taken n (meet_at n t) (v + joints p) S (rule_node_facts v (rule_of p)) T)
    (taken_of _ c.with_rule.result _ (sym c.is_err.ensures.value ∙ c.if-is_err.false) c.with_rule.ensures) in
    let settled_so : Tells c.settled.result (Settled (joints_of b) (joints p) (block_form b) T) =
    rw (c.from-joints.ensures ∙ c.joint_count-v.ensures ∙ ap joints_of c.session-session.ensures, c.from-k.ensures, c.session-session.ensures) at c.settled.ensures in
    waits start unpacked took c.requires.reach_reply (settled_so.1 c.if-settled.false)
