-- `asking::ask` meets its contract: each return is one of its three cases.
-- Assumes nothing.
use mathlib.Core.Path.{◌≡◌, refl, sym, ap, subst, ◌∙◌}
use Rattle.std.specs.Prelude.{ℕ, Ok}
use Rattle.replies.specs.Replies.{refuses, Reply}
use Rattle.replies.proofs.Laws.{went_on, stopped, handed_back}
use Rattle.packets.specs.Facts.{rule_of}
use Rattle.reach.specs.Reached.{ReachReply}
use Rattle.reach.proofs.Reached.{reach_done}
use Rattle.joints.specs.Layout.{kinds_of, joints_of}
use Rattle.asking.specs.Ask.{ask_refusal}
use Rattle.asking.specs.Ask.Ask.{refused, unreached, judged}
use Rattle.asking.proofs.Asking.{asked, ask_goes_on, block_refuses, packet_told}
use Rattle.asking.proofs.ask.Goals as goal

pub returns-in_err-block : goal.returns-in_err-block
returns-in_err-block c =
    let no = stopped refl c.in_err-block.ensures in
    let is = block_refuses _ c.args.packet.now no in
    refused (ap refuses is ∙ no) (handed_back refl c.in_err-block.ensures c.from_residual.ensures.1 ∙ sym is)

pub returns-in_err-rule_reply : goal.returns-in_err-rule_reply
returns-in_err-rule_reply c =
    let b = c.in_ok-block.ensures in
    let is : c.rule_reply.result ≡ ask_refusal c.args.block.now c.args.packet.now =
    packet_told _ _ b.1 (c.kind_count.ensures.count ∙ ap kinds_of b.0) (c.joint_count.ensures.count ∙ ap joints_of b.0) c.rule_reply.ensures in
    refused (stopped is c.in_err-rule_reply.was) (handed_back is c.in_err-rule_reply.was c.from_residual-in_err-rule_reply.ensures.1)

pub reach_reply-requires : goal.reach_reply-requires
reach_reply-requires c =
    let b = c.in_ok-block.ensures in
    let is : c.rule_reply.result ≡ ask_refusal c.args.block.now c.args.packet.now =
    packet_told _ _ b.1 (c.kind_count.ensures.count ∙ ap kinds_of b.0) (c.joint_count.ensures.count ∙ ap joints_of b.0) c.rule_reply.ensures in
    let not_refused = ask_goes_on _ _ (went_on is c.in_ok-rule_reply.was) in
    record {
      n = kinds_of c.args.block.now;
      v = joints_of c.args.block.now;
      well = (asked _ _ not_refused).rule;
    }

pub returns-in_err-reach_reply : goal.returns-in_err-reach_reply
returns-in_err-reach_reply c =
    let b = c.in_ok-block.ensures in
    let is : c.rule_reply.result ≡ ask_refusal c.args.block.now c.args.packet.now =
    packet_told _ _ b.1 (c.kind_count.ensures.count ∙ ap kinds_of b.0) (c.joint_count.ensures.count ∙ ap joints_of b.0) c.rule_reply.ensures in
    let not_refused = ask_goes_on _ _ (went_on is c.in_ok-rule_reply.was) in
    let back = handed_back refl c.in_err-reach_reply.was c.from_residual-in_err-reach_reply.ensures.1 in
    unreached not_refused (subst (λ (r : Reply). ReachReply (rule_of c.args.packet.now) r) (sym back) c.reach_reply.ensures) (stopped (sym back) c.in_err-reach_reply.was)

pub verdict-requires-clause-packet_value : goal.verdict-requires-clause-packet_value
verdict-requires-clause-packet_value c =
    let b = c.in_ok-block.ensures in
    let is : c.rule_reply.result ≡ ask_refusal c.args.block.now c.args.packet.now =
    packet_told _ _ b.1 (c.kind_count.ensures.count ∙ ap kinds_of b.0) (c.joint_count.ensures.count ∙ ap joints_of b.0) c.rule_reply.ensures in
    rw b.0 (ask_goes_on _ _ (went_on is c.in_ok-rule_reply.was))

pub returns : goal.returns
returns c =
    let b = c.in_ok-block.ensures in
    let is : c.rule_reply.result ≡ ask_refusal c.args.block.now c.args.packet.now =
    packet_told _ _ b.1 (c.kind_count.ensures.count ∙ ap kinds_of b.0) (c.joint_count.ensures.count ∙ ap joints_of b.0) c.rule_reply.ensures in
    let not_refused = ask_goes_on _ _ (went_on is c.in_ok-rule_reply.was) in
    let all_reached : ReachReply (rule_of c.args.packet.now) (Ok 0) =
    let r = c.reach_reply.ensures in
    rw (reach_done r (went_on refl c.in_ok-reach_reply.was)) at r in
    let v = c.verdict in
    judged not_refused all_reached v.result (rw b.0 at v.ensures) (ap (λ (t : ℕ). Ok t) c.into.ensures)
