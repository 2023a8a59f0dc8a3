-- The picture of a well-formed form, its classes themselves: it satisfies the form's facts with each joint at its class, and every
-- model is a map from it. Facts and found rules go along maps, so that what holds there holds in every model.
-- Assumes nothing.
use mathlib.Core.Path.{◌≡◌, sym, ◌∙◌, ap}
use mathlib.Core.Logic.Dec
use mathlib.Core.Logic.{by_cases, ⊎_elim}
use mathlib.Core.List.{List, [], ◌∷◌, map}
use Prim.Native.Nat.{ℕ, ◌<◌, ◌≤◌}
use native.Mathlib.Omega.{arith}
use native.Mathlib.Decide.{ℕ_discrete, dec_lt}
use Rattle.kinds.specs.Kinds.{Under}
use Rattle.kinds.specs.Laws.{Lawful}
use Rattle.kinds.proofs.Order.{under_trans}
use Rattle.meaning.specs.declared.RigJoint.{RigJoint}
use Rattle.meaning.specs.declared.RuleJoint.{RuleJoint}
use Rattle.meaning.specs.declared.Tie.{Tie}
use Rattle.meaning.specs.Picture.{Picture, Element, Placing, Fact, All, rename}
use Rattle.meaning.specs.Picture.Fact.{has_kind, same, leads}
use Rattle.meaning.specs.Rig.{Rig, meet_of}
use Rattle.meaning.specs.Rule.{Rule, Agree, Found, Applies, RuledOut}
use Rattle.meaning.specs.Form.{Form, unknown, facts_of, rig_joint, taken_facts}
use Rattle.meaning.specs.Solving.{Smallest, Well, AllInRange, Models}
use Rattle.meaning.specs.Asking.{TiesInRange, RuleInRange, rule_number}
use Rattle.meaning.proofs.Rigs.{LawfulRig, counts_every}
use Rattle.meaning.proofs.Facts.{by_number, models→facts, models→taken, taken→models}

-- a map of pictures: elements to elements, kinds at most, links kept where they are defined
pub record Map {n : ℕ} (meet : ℕ → ℕ → ℕ) (P Q : Picture n) (h : ℕ → ℕ) : Type 0 where
  pub element : (e : ℕ) → Element P e → Element Q (h e)
  pub kind : (e : ℕ) → Element P e → Under meet (Q.kind (h e)) (P.kind e)
  pub link : (e l : ℕ) → l < 16 → Element P e → Element P (P.link e l) → Q.link (h e) l ≡ h (P.link e l)

-- ties look at rig joints below v only
pub agree_along : (h : ℕ → ℕ) (v : ℕ) (σ ρ : RigJoint → ℕ) → ((j : RigJoint) → j.0 < v → ρ j ≡ h (σ j)) →
    (k : ℕ) (τ : RuleJoint → ℕ) (ts : List Tie) → TiesInRange v k ts → Agree σ τ ts → Agree ρ (λ u. h (τ u)) ts
agree_along h v σ ρ along k τ [] ir a = tt
agree_along h v σ ρ along k τ (t ∷ ts) ir a =
    (ap h a.0 ∙ sym (along t.rig ir.0.1), agree_along h v σ ρ along k τ ts ir.1 a.1)

module _ {n : ℕ} {meet : ℕ → ℕ → ℕ} (L : Lawful n meet) (P Q : Picture n) (h : ℕ → ℕ) (m : Map meet P Q h) where
  -- facts whose numbers are in range go along a map
  pub map_all : {J : Type 0} (number : J → ℕ) (v : ℕ) (τ : J → ℕ) → Placing P τ → (fs : List (Fact J)) →
      AllInRange n v (map (rename number) fs) → All meet P τ fs → All meet Q (λ j. h (τ j)) fs
  map_all number v τ placed [] ir a = tt
  map_all number v τ placed (has_kind x s ∷ fs) ir a = (
    under_trans L _ _ _ (Q.in_range _) (P.in_range _) ir.0.1 (m.kind (τ x) (placed x)) a.0,
    map_all number v τ placed fs ir.1 a.1,
  )
  map_all number v τ placed (same x y ∷ fs) ir a = (ap h a.0, map_all number v τ placed fs ir.1 a.1)
  map_all number v τ placed (leads x l y ∷ fs) ir a = (
    m.link (τ x) l ir.0.1 (placed x) (rw a.0 (placed y)) ∙ ap h a.0,
    map_all number v τ placed fs ir.1 a.1,
  )

  -- and so do rules that are found
  pub map_found : (v : ℕ) (σ ρ : RigJoint → ℕ) → ((j : RigJoint) → j.0 < v → ρ j ≡ h (σ j)) →
      (r : Rule) → RuleInRange n v r → Found meet P σ r → Found meet Q ρ r
  map_found v σ ρ along r ir f =
      record {
        τ = λ u. h (f.τ u);
        placed = λ u. m.element (f.τ u) (f.placed u);
        agree = agree_along h v σ ρ along r.joints f.τ r.ties ir.ties f.agree;
        holds = map_all rule_number r.joints f.τ f.placed r.facts ir.facts f.holds;
      }

-- each rig joint at its class
abbrev pub at_class : Form → RigJoint → ℕ
at_class S j = S.class j.0

module _ {n v : ℕ} {S : Form} (pos : 0 < v) (w : Well n v S) where
  pub zero_smallest : Smallest v S 0
  zero_smallest = (pos, omega (arith, w.class_le 0 pos))

  -- a class number is a smallest joint; joints from v on have class 0
  pub class_smallest : (j : ℕ) → Smallest v S (S.class j)
  class_smallest j =
      by_cases (dec_lt j v)
      (λ h. (omega (arith, w.class_le j h), w.class_smallest j h))
      (λ d. rw (w.class_rest j (omega arith)) zero_smallest)

  abbrev pub canon : Picture n
  canon =
      record {
        size = v;
        kind = S.kind;
        link = S.link;
        in_range = w.kind_in;
        finite = λ e h. w.kind_rest e (λ z. omega (arith, z.0));
        some = 0;
        not_empty = w.kind_some 0 zero_smallest;
      }

  pub element_smallest : (e : ℕ) → Element canon e → Smallest v S e
  element_smallest e h =
      by_cases (Dec.and (dec_lt e v) (ℕ_discrete (S.class e) e)) (λ y. y) (λ d. absurd (h (w.kind_rest e d)))

  pub canon_placing : Placing canon S.class
  canon_placing j = w.kind_some _ (class_smallest j)

  pub canon_rig_placing : Placing canon (at_class S)
  canon_rig_placing j = canon_placing j.0

module _ {n : ℕ} {meet : ℕ → ℕ → ℕ} (L : Lawful n meet) {v : ℕ} (pos : 0 < v) {S : Form} (w : Well n v S) where
  pub canon_models : Models meet v S (canon pos w) S.class
  canon_models =
      record {
        one = λ j h. sym (w.class_smallest j h);
        kind = λ j h. rw h.1 (L.self _ (w.kind_in j));
        link = λ j l h b known. rw h.1 (⊎_elim (λ u. absurd (known u)) (λ t. sym t.1) (w.link_smallest j l h b));
      }

  -- a placing that satisfies the facts is a map from the form's picture
  pub initial : v ≤ unknown → (P : Picture n) (σ : ℕ → ℕ) → Placing P σ → Models meet v S P σ → Map meet (canon pos w) P σ
  initial small P σ placed m =
      record {
        element = λ e h. placed e;
        kind = λ e h. m.kind e (element_smallest pos w e h);
        link = λ e l b h k. m.link e l (element_smallest pos w e h) b (λ u. omega (arith, (element_smallest pos w _ k).0));
      }

module _ {n : ℕ} {meet : ℕ → ℕ → ℕ} (L : Lawful n meet) (two : 1 < n) {v : ℕ} (pos : 0 < v) {S : Form} (w : Well n v S) where
  pub canon_facts : All meet (canon pos w) S.class (facts_of v S)
  canon_facts = models→facts L two v S (canon pos w) S.class (canon_models L pos w)

  pub canon_taken : All meet (canon pos w) (at_class S) (taken_facts v S)
  canon_taken = models→taken L two v S (canon pos w) (at_class S) (canon_models L pos w)

-- a rule applies exactly when it is found in the form's picture
module _ {R : Rig} (g : LawfulRig R) {S : Form} (w : Well R.kinds R.joints S) (r : Rule) where
  here : Picture R.kinds
  here = canon g.some w

  taken_here : All (meet_of R) here (at_class S) (taken_facts R.joints S)
  unfolding here
  taken_here = canon_taken g.lawful g.two g.some w

  pub applies_canon : Applies R (taken_facts R.joints S) r → Found (meet_of R) (canon g.some w) (at_class S) r
  unfolding here
  applies_canon f = f here (at_class S) (counts_every R.profile here) (canon_rig_placing g.some w) taken_here

  pub canon_applies :
      RuleInRange R.kinds R.joints r → Found (meet_of R) (canon g.some w) (at_class S) r → Applies R (taken_facts R.joints S) r
  canon_applies ir f P σ _ placed a =
      let m : Models (meet_of R) R.joints S P (by_number σ) = taken→models g.lawful g.two R.joints S P σ a in
      map_found g.lawful (canon g.some w) P (by_number σ)
      (initial g.lawful g.some w (omega (arith, g.few)) P (by_number σ) (λ j. placed (rig_joint j)) m)
      R.joints (at_class S) σ (λ j. m.one j.0) r ir f

  -- no rule both applies and is ruled out
  pub applies_not_ruled_out : Applies R (taken_facts R.joints S) r → RuledOut R (taken_facts R.joints S) r → ⊥
  unfolding here
  applies_not_ruled_out f o =
      o here (at_class S) (counts_every R.profile here) (canon_rig_placing g.some w) taken_here (applies_canon f)
