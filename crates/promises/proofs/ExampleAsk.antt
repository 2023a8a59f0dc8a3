-- Asking in the examples, on the block after F. A rule that applies is found at the rig's own elements; one that is ruled out would give a
-- left forearm a kind under "right"; for one that waits two small pictures are given, one in which it is found and one in which it is not.
-- Assumes nothing.
use mathlib.Core.Path.{◌≡◌, refl, sym, subst, ap, ◌∙◌}
use mathlib.Core.Logic.{◌≢◌}
use mathlib.Core.List.Memᴰ
use mathlib.Core.List.{List, [], ◌∷◌}
use Prim.Native.Nat.{ℕ, zero, suc, ◌<◌, ◌≤◌}
use native.Mathlib.Omega.{arith}
use lib.Dec.{lit<}
use lib.ListN.{get_or, get_or-eq_default}
use Rattle.std.specs.Prelude.{Ok}
use Rattle.replies.specs.Replies.{refuses, first_refusal}
use Rattle.kinds.specs.Kinds.{Under}
use Rattle.kinds.proofs.Order.{under_none}
use Rattle.house.specs.Meets.{house_table}
use Rattle.house.proofs.Rule.{house_lawful}
use Rattle.meaning.specs.declared.RigJoint.{RigJoint}
use Rattle.meaning.specs.declared.RuleJoint.{RuleJoint}
use Rattle.meaning.specs.declared.Tie.{Tie}
use Rattle.meaning.specs.declared.Verdict.{Verdict}
use Rattle.meaning.specs.declared.Verdict.TheVariants as verdict
use Rattle.meaning.specs.Picture.{Picture, Placing, Fact, All}
use Rattle.meaning.specs.Picture.Fact.{has_kind, leads}
use Rattle.meaning.specs.Form.{rig_joint}
use Rattle.meaning.specs.Rule.{Rule, rule_joint, Found, Reached, Applies, RuledOut, Judged, verdict_number}
use Rattle.meaning.specs.Rule.Reached.{by_tie, by_link}
use Rattle.packets.specs.Facts.{rule_of, fact_of}
use Rattle.screening.specs.Screening.{packet_reply, rule_wanted, fact_fits, first_unfit}
use Rattle.runs.specs.Runs.{each}
use Rattle.reach.specs.Reached.{ReachReply}
use Rattle.reach.specs.Reached.SmallestNot.{all}
use Rattle.asking.specs.Ask.{ask_refusal, Ask}
use Rattle.asking.specs.Ask.Ask.{judged}
use Rattle.blocks.proofs.Shape.{block_done}
use Rattle.blocks.proofs.Bytes.{at_rig_lem as over_rig}
use Rattle.asking.proofs.Asking.{packet_decides}
use Rattle.asking.proofs.OneAsk.{ask_one}
use Rattle.promises.specs.Examples.{Asks, rule6, rule7, rule8, rule9, rule10, rule11}
use Rattle.promises.proofs.Readings.{reads_exactly}
use Rattle.promises.proofs.ExampleBlock.{house_rig, after_f, after_rig, after_good, facts_after}
use Rattle.promises.proofs.ExampleTake.{house_meet, of_after, rises, under_both}

-- what the packets say: joint 0 is tied to rig joint 0, or to two rig joints
abbrev tie : ℕ → ℕ → Tie
tie u j = record { rule = rule_joint u; rig = rig_joint j }

abbrev said6 : ℕ → Rule
said6 s =
    record {
      joints = 2;
      ties = tie 0 0 ∷ [];
      facts = has_kind (rule_joint 0) 9 ∷ leads (rule_joint 0) 1 (rule_joint 1) ∷ has_kind (rule_joint 1) s ∷ [];
    }

abbrev said8 : Rule
said8 = record { joints = 1; ties = tie 0 0 ∷ []; facts = has_kind (rule_joint 0) 21 ∷ [] }

abbrev said9 : Rule
said9 = record { joints = 2; ties = tie 0 0 ∷ []; facts = leads (rule_joint 0) 2 (rule_joint 1) ∷ [] }

abbrev said10 : ℕ → Rule
said10 j = record { joints = 1; ties = tie 0 1 ∷ tie 0 j ∷ []; facts = [] }

-- a packet for asking that no reply from 5 to 9 refuses, and what it says
record Says (p : List ℕ) (r : Rule) : Type 0 where
  fits : packet_reply rule_wanted 33 4 p ≡ Ok 0
  is : rule_of p ≡ r

says6 : Says rule6 (said6 2)
unfolding packet_reply rule6 fact_fits first_unfit first_refusal fact_of each
says6 = record { fits = refl; is = refl }

says7 : Says rule7 (said6 3)
unfolding packet_reply rule7 fact_fits first_unfit first_refusal fact_of each
says7 = record { fits = refl; is = refl }

says8 : Says rule8 said8
unfolding packet_reply rule8 fact_fits first_unfit first_refusal fact_of each
says8 = record { fits = refl; is = refl }

says9 : Says rule9 said9
unfolding packet_reply rule9 fact_fits first_unfit first_refusal fact_of each
says9 = record { fits = refl; is = refl }

says10 : Says rule10 (said10 2)
unfolding packet_reply rule10 fact_fits first_unfit first_refusal fact_of each
says10 = record { fits = refl; is = refl }

says11 : Says rule11 (said10 3)
unfolding packet_reply rule11 fact_fits first_unfit first_refusal fact_of each
says11 = record { fits = refl; is = refl }

-- joint 0 is tied, and joint 1 is where a link of joint 0 leads
zero_reached : {t : Tie} {ts : List Tie} {k : ℕ} {fs : List (Fact RuleJoint)} →
    Reached (record { joints = k; ties = t ∷ ts; facts = fs }) t.rule
zero_reached = by_tie (Memᴰ.head refl)

one_joint : (r : Rule) → r.joints ≡ 1 → Reached r (rule_joint 0) → ReachReply r (Ok 0)
one_joint r e z = all (λ j h. let q : j ≡ 0 = omega arith in rw q z)

two_joints : (r : Rule) → r.joints ≡ 2 → Reached r (rule_joint 0) → Reached r (rule_joint 1) → ReachReply r (Ok 0)
two_joints r e z o = all reached
  where
    reached : (j : ℕ) → j < r.joints → Reached r (rule_joint j)
    reached zero h = z
    reached (suc zero) h = o
    reached (suc (suc j)) h = absurd (omega arith)

reach6 : (s : ℕ) → ReachReply (said6 s) (Ok 0)
reach6 s = two_joints (said6 s) refl zero_reached (by_link (Memᴰ.tail (Memᴰ.head refl)) zero_reached)

-- the one answer, by a verdict on what the packet says
answers :
    (p : List ℕ) {r : Rule} → Says p r → ReachReply r (Ok 0) → (x : Verdict) →
    Judged house_rig facts_after r x → Asks after_f p x
answers p {r} s reach x j reply = (
  λ a. (reads_exactly reply (Ok (verdict_number x))).0 (ask_one a one),
  λ e. rw ((reads_exactly reply (Ok (verdict_number x))).1 e) one,
)
  where
    done : ask_refusal after_f p ≡ Ok 0
    done = packet_decides after_f p (ap refuses (block_done after_good))
        ∙ over_rig (λ R. packet_reply rule_wanted R.kinds R.joints p ≡ Ok 0) (sym after_rig) s.fits

    one : Ask after_f p (Ok (verdict_number x))
    one =
        judged done (subst (λ (q : Rule). ReachReply q (Ok 0)) (sym s.is) reach) x
        (of_after (λ R fs. Judged R fs (rule_of p) x)
        (subst (λ (q : Rule). Judged house_rig facts_after q x) (sym s.is) j))
        refl

-- P6: each rule joint at the element of the rig joint of its number
at_rig_lem : (RigJoint → ℕ) → RuleJoint → ℕ
at_rig_lem σ u = σ (rig_joint u.0)

applies6 : Applies house_rig facts_after (said6 2)
unfolding at_rig_lem house_table
applies6 P σ _ placed a =
    let arm_part = rises P (σ (rig_joint 0)) 11 9 (lit< tt) (lit< tt) refl a.0 in
    let link = a.1.0 in
    let left = rises P (σ (rig_joint 1)) 23 2 (lit< tt) (lit< tt) refl a.1.1.0 in
    record {
      τ = at_rig_lem σ;
      placed = λ u. placed (rig_joint u.0);
      agree = (refl, tt);
      holds = (arm_part, (link, (left, tt)));
    }

pub p6 : Asks after_f rule6 verdict.Applies
p6 = answers rule6 says6 (reach6 2) verdict.Applies applies6

-- P7: rule joint 1 would be at the element of rig joint 1, which is a left forearm
out7 : RuledOut house_rig facts_after (said6 3)
unfolding house_table
out7 P σ _ placed a found =
    let e = found.τ (rule_joint 1) in
    let same_end : σ (rig_joint 1) ≡ e = sym a.1.0 ∙ ap (λ (x : ℕ). P.link x 1) (sym found.agree.0) ∙ found.holds.1.0 in
    let forearm = rw same_end at a.1.1.0 in
    found.placed (rule_joint 1)
    (under_none house_lawful (P.kind e) (lit< tt) (P.in_range e)
    (under_both P e 23 3 0 (lit< tt) (lit< tt) refl forearm found.holds.1.1.0))

pub p7 : Asks after_f rule7 verdict.RuledOut
p7 = answers rule7 says7 (reach6 3) verdict.RuledOut out7

-- P10: 1 and 2 are one
applies10 : Applies house_rig facts_after (said10 2)
applies10 P σ _ placed a =
    record { τ = λ u. σ (rig_joint 1); placed = λ u. placed (rig_joint 1); agree = (refl, (sym a.1.1.1.0, tt)); holds = tt }

pub p10 : Asks after_f rule10 verdict.Applies
p10 = answers rule10 says10 (one_joint (said10 2) refl zero_reached) verdict.Applies applies10

-- Small pictures for the rules that wait: elements 0, 1 and 2, of kinds s, left forearm and any. Link 1 leads to 1 and link 2 to `far`, from
-- each; where that is `nowhere`, and for every other link, it is not defined. Rig joint 0 is at 0, joints 1 and 2 at 1, joint 3 at `last`.
abbrev nowhere : ℕ
nowhere = 3

kind_at : ℕ → ℕ → ℕ
kind_at s e = get_or (s ∷ 23 ∷ 1 ∷ []) e 0

link_at : ℕ → ℕ → ℕ
link_at far l = get_or (nowhere ∷ 1 ∷ far ∷ []) l nowhere

place_at : ℕ → ℕ → ℕ
place_at last j = get_or (0 ∷ 1 ∷ 1 ∷ last ∷ []) j 0

place : ℕ → RigJoint → ℕ
place last j = place_at last j.0

record Arm (s : ℕ) : Type 0 where
  below : s < 33
  some : s ≢ 0
  under : Under house_meet s 11

module _ {s : ℕ} (a : Arm s) where
  in_range : (e : ℕ) → kind_at s e < 33
  unfolding kind_at
  in_range zero = a.below
  in_range (suc zero) = lit< tt
  in_range (suc (suc zero)) = lit< tt
  in_range (suc (suc (suc e))) = lit< tt

  ends : (e : ℕ) → 3 ≤ e → kind_at s e ≡ 0
  unfolding kind_at
  ends e h = get_or-eq_default (s ∷ 23 ∷ 1 ∷ []) 0 h

  small : ℕ → Picture 33
  unfolding kind_at
  small far =
      record {
        size = 3;
        kind = kind_at s;
        link = λ _. link_at far;
        in_range = in_range;
        finite = ends;
        some = 0;
        not_empty = a.some;
      }

  at_element : (last j : ℕ) → kind_at s last ≢ 0 → kind_at s (place_at last j) ≢ 0
  unfolding kind_at place_at
  at_element last zero h = a.some
  at_element last (suc zero) h = λ e. omega arith
  at_element last (suc (suc zero)) h = λ e. omega arith
  at_element last (suc (suc (suc zero))) h = h
  at_element last (suc (suc (suc (suc j)))) h = a.some

  module _ (far last : ℕ) (lasts : kind_at s last ≢ 0) where
    placed : Placing (small far) (place last)
    unfolding small place
    placed j = at_element last j.0 lasts

    holds : All house_meet (small far) (place last) facts_after
    unfolding small place kind_at link_at place_at house_table
    holds = (a.under, (refl, (refl, (refl, tt))))

    -- a rule found there is not ruled out, and one not found there does not apply
    found_here : {r : Rule} → Found house_meet (small far) (place last) r → RuledOut house_rig facts_after r → ⊥
    found_here f o = o (small far) (place last) tt placed holds f

    not_here : {r : Rule} → (Found house_meet (small far) (place last) r → ⊥) → Applies house_rig facts_after r → ⊥
    not_here n f = n (f (small far) (place last) tt placed holds)

-- a left arm, and a left upper arm
left_arm : Arm 11
unfolding house_table
left_arm = record { below = lit< tt; some = λ e. omega arith; under = refl }

left_upper_arm : Arm 21
unfolding house_table
left_upper_arm = record { below = lit< tt; some = λ e. omega arith; under = refl }

-- 1 and 2 are elements
one_some : (s : ℕ) → kind_at s 1 ≢ 0
unfolding kind_at
one_some s e = omega arith

two_some : (s : ℕ) → kind_at s 2 ≢ 0
unfolding kind_at
two_some s e = omega arith

-- P8: a left arm need not be a left upper arm, but may be
waits8 : Judged house_rig facts_after said8 verdict.Waits
unfolding small place place_at kind_at house_table
waits8 = (
  not_here left_arm nowhere 1 (one_some 11) (λ f. let q : ◌≡◌ {A = ℕ} 21 11 = rw f.agree.0 at f.holds.0 in omega arith),
  found_here left_upper_arm nowhere 1 (one_some 21)
      (record { τ = λ _. 0; placed = λ _. left_upper_arm.some; agree = (refl, tt); holds = (refl, tt) }),
)

pub p8 : Asks after_f rule8 verdict.Waits
p8 = answers rule8 says8 (one_joint said8 refl zero_reached) verdict.Waits waits8

-- P9: an unwritten link may be absent, or lead to an element
waits9 : Judged house_rig facts_after said9 verdict.Waits
unfolding small place place_at kind_at link_at at_rig_lem
waits9 = (
  not_here left_arm nowhere 1 (one_some 11) (λ f. f.placed (rule_joint 1) (ap (kind_at 11) (sym f.holds.0))),
  found_here left_arm 1 1 (one_some 11)
      (record {
        τ = at_rig_lem (place 1);
        placed = λ u. placed left_arm 1 1 (one_some 11) (rig_joint u.0);
        agree = (refl, tt);
        holds = (refl, tt);
      }),
)

pub p9 : Asks after_f rule9 verdict.Waits
p9 = answers rule9 says9 (two_joints said9 refl zero_reached (by_link (Memᴰ.head refl) zero_reached)) verdict.Waits waits9

-- P11: 1 and 3 need not be one, but may be
waits11 : Judged house_rig facts_after (said10 3) verdict.Waits
unfolding small place place_at kind_at
waits11 = (
  not_here left_arm nowhere 2 (two_some 11)
      (λ f. let q : ◌≡◌ {A = ℕ} 1 2 = sym f.agree.0 ∙ f.agree.1.0 in omega arith),
  found_here left_arm nowhere 1 (one_some 11)
      (record { τ = λ _. 1; placed = λ _. one_some 11; agree = (refl, (refl, tt)); holds = tt }),
)

pub p11 : Asks after_f rule11 verdict.Waits
p11 = answers rule11 says11 (one_joint (said10 3) refl zero_reached) verdict.Waits waits11
