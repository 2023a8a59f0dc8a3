-- `taking::refusal` meets its contract: the reply to the block, and where that does not refuse the reply to the packet.
-- Assumes nothing.
use mathlib.Core.Path.{refl, sym, ap, ap₂, ◌∙◌}
use Prim.Native.Nat.{ℕ}
use Rattle.replies.proofs.Laws.{went_on, stopped, handed_back}
use Rattle.screening.specs.Screening.{packet_reply, facts_wanted}
use Rattle.joints.specs.Layout.{kinds_of, joints_of}
use Rattle.taking.proofs.Taking.{block_refuses, packet_decides}
use Rattle.taking.proofs.refusal.Goals as goal

pub returns-in_err-block : goal.returns-in_err-block
returns-in_err-block c =
    handed_back refl c.in_err-block.ensures c.from_residual.ensures.1 ∙ sym (block_refuses _ _ (stopped refl c.in_err-block.ensures))

pub returns : goal.returns
returns c =
    let b = c.in_ok-block.ensures in
    let p = c.args.packet.now in
    c.facts_reply.ensures
    ∙ ap₂ (λ (n v : ℕ). packet_reply (facts_wanted v) n v p) (c.kind_count.ensures.count ∙ ap kinds_of b.0) (c.joint_count.ensures.count ∙ ap joints_of b.0)
    ∙ sym (packet_decides _ _ (went_on refl b.1))
