-- The contract of asking allows one reply: no rule both applies and is ruled out, given the taken facts of a good block.
-- Assumes nothing.
use mathlib.Core.Path.{◌≡◌, refl, sym, ap, ◌∙◌}
use mathlib.Core.List.{List}
use Prim.Native.Nat.{ℕ}
use Rattle.std.specs.Prelude.{Ok}
use Rattle.replies.specs.Replies.{Reply}
use Rattle.replies.proofs.Laws.{not_both}
use Rattle.meaning.specs.declared.Verdict.{Verdict}
use Rattle.meaning.specs.declared.Verdict.TheVariants.{Applies, RuledOut, Waits}
use Rattle.meaning.specs.Rule.{Judged, verdict_number}
use Rattle.meaning.proofs.Canon.{applies_not_ruled_out}
use Rattle.packets.specs.Facts.{rule_of}
use Rattle.reach.proofs.Reached.{reach_one}
use Rattle.joints.specs.Layout.{taken}
use Rattle.blocks.specs.Layout.{rig_of}
use Rattle.blocks.proofs.Shape.{GoodBlock, block_rig}
use Rattle.asking.specs.Ask.{Ask}
use Rattle.asking.specs.Ask.Ask.{refused, unreached, judged}
use Rattle.asking.proofs.Asking.{asked}

module _ {b : List ℕ} (g : GoodBlock b) (p : List ℕ) where
  verdict_one : (x y : Verdict) → Judged (rig_of b) (taken b) (rule_of p) x → Judged (rig_of b) (taken b) (rule_of p) y → x ≡ y
  verdict_one Applies Applies f h = refl
  verdict_one Applies RuledOut f h = absurd (applies_not_ruled_out (block_rig g.well) g.well.well (rule_of p) f h)
  verdict_one Applies Waits f h = absurd (h.0 f)
  verdict_one RuledOut Applies f h = absurd (applies_not_ruled_out (block_rig g.well) g.well.well (rule_of p) h f)
  verdict_one RuledOut RuledOut f h = refl
  verdict_one RuledOut Waits f h = absurd (h.1 f)
  verdict_one Waits Applies f h = absurd (f.0 h)
  verdict_one Waits RuledOut f h = absurd (f.1 h)
  verdict_one Waits Waits f h = refl

pub ask_one : {b p : List ℕ} {r s : Reply} → Ask b p r → Ask b p s → r ≡ s
ask_one (refused _ e) (refused _ f) = e ∙ sym f
ask_one (refused q e) (unreached d _ _) = absurd (not_both q d)
ask_one (refused q e) (judged d _ _ _ _) = absurd (not_both q d)
ask_one (unreached d _ _) (refused q _) = absurd (not_both q d)
ask_one (unreached _ x _) (unreached _ y _) = reach_one x y
ask_one (unreached _ x q) (judged _ y _ _ _) = absurd (not_both q (reach_one x y))
ask_one (judged d _ _ _ _) (refused q _) = absurd (not_both q d)
ask_one (judged _ y _ _ _) (unreached _ x q) = absurd (not_both q (reach_one x y))
ask_one {b} {p} (judged d _ x f e) (judged _ _ y g h) =
    e ∙ ap (λ (z : Verdict). Ok (verdict_number z)) (verdict_one (asked b p d).good p x y f g) ∙ sym h
