-- Taking in the examples: F, on a fresh block, means what the four facts of P5 mean, by the order of the house kinds; and 2, which is a left
-- forearm then, clashes with "right". Each is a result that taking allows, so that it is the only one.
-- Assumes nothing.
use mathlib.Core.Path.{◌≡◌, refl, sym, ap, ◌∙◌}
use mathlib.Core.List.{List, [], ◌∷◌, ◌++◌}
use Prim.Native.Nat.{ℕ, ◌<◌}
use lib.Dec.{lit<}
use lib.ListN.{take}
use Rattle.std.specs.Prelude.{Ok}
use Rattle.replies.specs.declared.Cause.TheVariants.{Clash}
use Rattle.replies.specs.Replies.{number, place, third, refuses, first_refusal, Reply, refusal}
use Rattle.kinds.specs.Kinds.{Under, meet_at}
use Rattle.kinds.proofs.Order.{under_trans, under_none, meet_greatest}
use Rattle.house.specs.Meets.{house_table}
use Rattle.house.proofs.Rule.{house_lawful}
use Rattle.meaning.specs.declared.RigJoint.{RigJoint}
use Rattle.meaning.specs.Picture.{Picture, Fact, All}
use Rattle.meaning.specs.Rig.{Rig, NoPicture, FirstClash, SameMeaning}
use Rattle.meaning.specs.Picture.Fact.{has_kind, leads}
use Rattle.meaning.specs.Form.{rig_joint}
use Rattle.packets.specs.Packet.{fact_at}
use Rattle.packets.specs.Facts.{rig_facts, fact_of}
use Rattle.screening.specs.Screening.{packet_reply, facts_wanted, fact_fits, first_unfit}
use Rattle.runs.specs.Runs.{each}
use Rattle.joints.specs.Layout.{taken}
use Rattle.blocks.specs.Layout.{rig_of}
use Rattle.blocks.proofs.Shape.{GoodBlock, block_done, put_together}
use Rattle.blocks.proofs.Bytes.{at_rig_lem}
use Rattle.taking.specs.Take.{take_refusal, Take}
use Rattle.taking.specs.Take.Take.{clashes, done}
use Rattle.taking.proofs.Taking.{packet_decides}
use Rattle.taking.proofs.OneTake.{take_one, after_picture}
use Rattle.promises.specs.Examples.{opened, facts_f, fact12, Takes}
use Rattle.promises.proofs.Readings.{reads_exactly}
use Rattle.promises.proofs.Sessions.{after_none}
use Rattle.promises.proofs.ExampleBlock.{house_rig, opened_rig_lem, opened_good, opened_taken, opened_count, after_f, after_rig, after_good, facts_after, after_taken, after_count}

abbrev pub house_meet : ℕ → ℕ → ℕ
house_meet = meet_at 33 house_table

-- the one result
pub takes :
    {b p : List ℕ} (reply : Reply) {after : List ℕ} → Take b p reply after → Takes b p (number reply) (place reply) (third reply) after
takes {b} {p} reply t r x = (
  λ u. let e = take_one u t in ((reads_exactly r reply).0 e.0, e.1),
  λ e. rw ((reads_exactly r reply).1 e.0, e.1) t,
)

-- a packet that is not refused for 33 kinds and 4 joints is not refused by a block of so many
not_refused :
    {b : List ℕ} (p : List ℕ) → GoodBlock b → rig_of b ≡ house_rig → packet_reply (facts_wanted 4) 33 4 p ≡ Ok 0 → take_refusal b p ≡ Ok 0
not_refused {b} p g rig e =
    packet_decides b p (ap refuses (block_done g))
    ∙ at_rig_lem (λ R. packet_reply (facts_wanted R.joints) R.kinds R.joints p ≡ Ok 0) (sym rig) e

facts_f_fit : packet_reply (facts_wanted 4) 33 4 facts_f ≡ Ok 0
unfolding packet_reply facts_f fact_fits first_unfit first_refusal each
facts_f_fit = refl

fact12_fits : packet_reply (facts_wanted 4) 33 4 fact12 ≡ Ok 0
unfolding packet_reply fact12 fact_fits first_unfit first_refusal each
fact12_fits = refl

-- what the packets say
abbrev said_f : List (Fact RigJoint)
said_f =
    has_kind (rig_joint 0) 9 ∷ has_kind (rig_joint 0) 2
    ∷ leads (rig_joint 0) 1 (rig_joint 1) ∷ leads (rig_joint 0) 1 (rig_joint 2)
    ∷ has_kind (rig_joint 1) 16 ∷ has_kind (rig_joint 2) 2
    ∷ []

facts_f_say : rig_facts facts_f ≡ said_f
unfolding facts_f fact_of each
facts_f_say = refl

fact12_says : rig_facts fact12 ≡ has_kind (rig_joint 2) 3 ∷ []
unfolding fact12 fact_of each
fact12_says = refl

-- the kind of an element under a greater one, and under two
module _ (P : Picture 33) (e : ℕ) where
  pub rises : (s t : ℕ) → s < 33 → t < 33 → house_meet s t ≡ s → Under house_meet (P.kind e) s → Under house_meet (P.kind e) t
  rises s t hs ht m u = under_trans house_lawful (P.kind e) s t (P.in_range e) hs ht u m

  pub under_both :
      (s t m : ℕ) → s < 33 → t < 33 → house_meet s t ≡ m → Under house_meet (P.kind e) s → Under house_meet (P.kind e) t →
      Under house_meet (P.kind e) m
  under_both s t m hs ht q u w = rw q at (meet_greatest house_lawful (P.kind e) s t (P.in_range e) hs ht u w)

-- F means what its solved form means
module _ (P : Picture 33) (σ : RigJoint → ℕ) where
  to_said : All house_meet P σ facts_after → All house_meet P σ said_f
  unfolding house_table
  to_said a =
      let left_arm = a.0 in
      let link = a.1.0 in
      let left_forearm = a.1.1.0 in
      let one = a.1.1.1.0 in
      let arm_part = rises P (σ (rig_joint 0)) 11 9 (lit< tt) (lit< tt) refl left_arm in
      let left = rises P (σ (rig_joint 0)) 11 2 (lit< tt) (lit< tt) refl left_arm in
      let forearm = rises P (σ (rig_joint 1)) 23 16 (lit< tt) (lit< tt) refl left_forearm in
      let left_1 = rises P (σ (rig_joint 1)) 23 2 (lit< tt) (lit< tt) refl left_forearm in
      (arm_part, (left, (link, (link ∙ sym one, (forearm, (rw one left_1, tt))))))

  from_said : All house_meet P σ said_f → All house_meet P σ facts_after
  unfolding house_table
  from_said a =
      let link_1 = a.1.1.0 in
      let link_2 = a.1.1.1.0 in
      let one : σ (rig_joint 2) ≡ σ (rig_joint 1) = sym link_2 ∙ link_1 in
      let forearm = a.1.1.1.1.0 in
      let left_1 = rw one at a.1.1.1.1.1.0 in
      let left_arm = under_both P (σ (rig_joint 0)) 9 2 11 (lit< tt) (lit< tt) refl a.0 a.1.0 in
      let left_forearm = under_both P (σ (rig_joint 1)) 16 2 23 (lit< tt) (lit< tt) refl forearm left_1 in
      (left_arm, (link_1, (left_forearm, (one, tt))))

same_F : SameMeaning house_rig facts_after said_f
same_F P σ _ placed = (to_said P σ, from_said P σ)

-- P4: F is taken with 1 join
pub takes_F : Takes opened facts_f 0 0 1 after_f
takes_F =
    takes (Ok 1)
    (done (not_refused facts_f opened_good opened_rig_lem facts_f_fit)
    (record {
      stands = record { size = after_good.size; well = put_together after_f after_good.well; rig = after_rig ∙ sym opened_rig_lem };
      means = at_rig_lem (λ R. SameMeaning R (taken after_f) (taken opened ++ rig_facts facts_f)) (sym opened_rig_lem) (rw (after_taken, opened_taken, facts_f_say) same_F);
    })
    (rw (opened_count, after_count)))

-- what holds of the house rig and the four facts holds of the block after F
pub of_after : (X : Rig → List (Fact RigJoint) → Type 0) → X house_rig facts_after → X (rig_of after_f) (taken after_f)
of_after X x = at_rig_lem (λ R. X R (taken after_f)) (sym after_rig) (rw after_taken x)

-- a left forearm is not right
clash_12 : NoPicture house_rig (facts_after ++ (has_kind (rig_joint 2) 3 ∷ []))
unfolding house_table
clash_12 P σ _ placed a =
    let forearm = a.1.1.0 in
    let right = rw a.1.1.1.0 at a.1.1.1.1.0 in
    let e = σ (rig_joint 1) in
    placed (rig_joint 1)
    (under_none house_lawful (P.kind e) (lit< tt) (P.in_range e)
    (under_both P e 23 3 0 (lit< tt) (lit< tt) refl forearm right))

-- it is the first fact of its packet, and before it the taken facts have a picture: that of their block
first_12 : FirstClash (rig_of after_f) (taken after_f) (rig_facts fact12) 0
first_12 =
    record {
      among = rw fact12_says (lit< tt);
      before = after_picture (after_none after_good);
      none = of_after (λ R fs. NoPicture R (fs ++ take 1 (rig_facts fact12))) (rw fact12_says clash_12);
    }

fact12_at : fact_at fact12 0 ≡ 6
unfolding fact12
fact12_at = refl

-- P12: then "2 has kind 3" clashes at byte 6, and the block is unchanged
pub takes_12 : Takes after_f fact12 11 6 0 after_f
takes_12 =
    takes (refusal Clash 6)
    (clashes (not_refused fact12 after_good after_rig fact12_fits) 0 first_12 (ap (refusal Clash) (sym fact12_at)) refl)
