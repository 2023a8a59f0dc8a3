-- "Kind 0 may be written in a fact; it always clashes": no element has a kind under 0, so that no picture satisfies the fact. A packet for
-- taking in which it stands is refused for a clash, and a rule in which it stands is ruled out.
-- Assumes nothing.
use mathlib.Core.Path.{◌≡◌}
use mathlib.Core.List.{List, ◌++◌, Memᴰ}
use Prim.Native.Nat.{ℕ}
use native.Mathlib.Omega.{arith}
use Rattle.std.specs.Prelude.{Ok}
use Rattle.replies.specs.Replies.{number, Reply}
use Rattle.kinds.specs.Kinds.{Under}
use Rattle.kinds.proofs.Order.{under_none}
use Rattle.meaning.specs.declared.RigJoint.{RigJoint}
use Rattle.meaning.specs.declared.RuleJoint.{RuleJoint}
use Rattle.meaning.specs.Picture.{Picture, Element, Fact}
use Rattle.meaning.specs.Rig.{Rig, meet_of, NoPicture}
use Rattle.meaning.specs.Picture.Fact.{has_kind}
use Rattle.meaning.specs.Rule.{Rule, RuledOut}
use Rattle.meaning.proofs.Facts.{all_right, all_member}
use Rattle.packets.specs.Facts.{rig_facts, rule_of}
use Rattle.reach.specs.Reached.{ReachReply}
use Rattle.meaning.proofs.Rigs.{LawfulRig}
use Rattle.joints.specs.Layout.{taken}
use Rattle.taking.specs.Take.{Take, take_refusal}
use Rattle.asking.specs.Ask.{Ask, ask_refusal}
use Rattle.blocks.proofs.Shape.{block_rig}
use Rattle.taking.proofs.Taking.{taken_good}
use Rattle.asking.proofs.Asking.{asked}
use Rattle.promises.specs.HostReplies.{Reads}
use Rattle.promises.proofs.Demand2.{clash_exactly, ruled_out_exactly}

module _ {R : Rig} (g : LawfulRig R) where
  pub none_of_kind_none : (P : Picture R.kinds) (e : ℕ) → Element P e → Under (meet_of R) (P.kind e) 0 → ⊥
  none_of_kind_none P e element under = element (under_none g.lawful (P.kind e) (omega (arith, g.two)) (P.in_range e) under)

  pub none_no_picture : {J : Type 0} {a : J} (fs gs : List (Fact J)) → Memᴰ (has_kind a 0) gs → NoPicture R (fs ++ gs)
  none_no_picture {a = a} fs gs m P σ _ placed all =
      none_of_kind_none P (σ a) (placed a) (all_member (meet_of R) P σ m (all_right (meet_of R) P σ fs gs all))

  pub none_no_rule : {u : RuleJoint} (fs : List (Fact RigJoint)) (r : Rule) → Memᴰ (has_kind u 0) r.facts → RuledOut R fs r
  none_no_rule {u = u} fs r m P σ _ _ _ f = none_of_kind_none P (f.τ u) (f.placed u) (all_member (meet_of R) P f.τ m f.holds)

-- a packet that no reply from 1 to 9 refuses
pub none_clashes :
    {b p after : List ℕ} {r : Reply} {a : RigJoint} → take_refusal b p ≡ Ok 0 → Take b p r after → Memᴰ (has_kind a 0) (rig_facts p) →
    number r ≡ 11
none_clashes {b} {p} well take m =
    (clash_exactly well take).1 (none_no_picture (block_rig (taken_good b p well).0.well) (taken b) (rig_facts p) m)

-- a rule that no reply from 1 to 10 refuses
pub none_ruled_out :
    {b p : List ℕ} {r : Reply} {u : RuleJoint} → ask_refusal b p ≡ Ok 0 → ReachReply (rule_of p) (Ok 0) → Ask b p r →
    Memᴰ (has_kind u 0) (rule_of p).facts → Reads r 0 0 2
none_ruled_out {b} {p} well reached ask m =
    (ruled_out_exactly well reached ask).1 (none_no_rule (block_rig (asked b p well).good.well) (taken b) (rule_of p) m)
