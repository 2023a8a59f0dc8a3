-- A form with free nodes more is well formed, and has the models of the form. A rule is found at a placing exactly when its ties and facts
-- hold at the nodes: the placings of the rig's and of the rule's joints stand beside each other.
-- Assumes nothing.
use mathlib.Core.Path.{◌≡◌, sym, ◌∙◌, ap, fun_ext}
use mathlib.Core.Logic.{◌↔◌, inl, inr, by_cases, ⊎_elim}
use mathlib.Core.Bool.{cond}
use mathlib.Core.List.{List, [], ◌∷◌, map}
use Prim.Native.Nat.{ℕ, ◌+◌, ◌-◌, ◌<◌, ◌≤◌}
use native.Mathlib.Omega.{arith}
use native.Mathlib.Decide.{dec_lt}
use lib.Dec.{ltb}
use borrow.Author.Tests.{lt-ltb, le-ltb}
use Rattle.kinds.specs.Laws.{Lawful}
use Rattle.kinds.proofs.Order.{under_any}
use Rattle.meaning.specs.declared.RigJoint.{RigJoint}
use Rattle.meaning.specs.declared.RuleJoint.{RuleJoint}
use Rattle.meaning.specs.declared.Tie.{Tie}
use Rattle.meaning.specs.Picture.{Picture, Placing, All, rename}
use Rattle.meaning.specs.Rule.{Rule, rule_joint, Agree, Found}
use Rattle.meaning.specs.Form.{Form, rig_joint}
use Rattle.meaning.specs.Solving.{Smallest, Well, Models}
use Rattle.meaning.specs.Asking.{RuleInRange, rule_node, tie_fact, rule_node_facts, Extends}
use Rattle.meaning.proofs.Facts.{keep, all_append, all_left, all_right, all_rename}
use Rattle.meaning.proofs.Canon.{agree_along}

-- a placing of the nodes, at the rig's joints and at the rule's
abbrev pub at_rig : (ℕ → ℕ) → RigJoint → ℕ
at_rig ρ j = ρ j.0

abbrev pub at_rule : ℕ → (ℕ → ℕ) → RuleJoint → ℕ
at_rule v ρ u = ρ (rule_node v u)

-- placings of the rig's and of the rule's joints, beside each other
abbrev pub beside : ℕ → (RigJoint → ℕ) → (RuleJoint → ℕ) → ℕ → ℕ
beside v σ τ j = cond (ltb j v) (σ (rig_joint j)) (τ (rule_joint (j - v)))

module _ (v : ℕ) (σ : RigJoint → ℕ) (τ : RuleJoint → ℕ) where
  pub beside_rig : (j : ℕ) → j < v → beside v σ τ j ≡ σ (rig_joint j)
  beside_rig j h = rw (lt-ltb j v h)

  pub beside_rule : at_rule v (beside v σ τ) ≡ τ
  beside_rule =
      fun_ext
      (λ u. let e : (v + u.0) - v ≡ u.0 = omega arith in rw (le-ltb (v + u.0) v (omega arith)) (ap (λ (i : ℕ). τ (rule_joint i)) e))

  pub beside_placing : {n : ℕ} (P : Picture n) → Placing P σ → Placing P τ → Placing P (beside v σ τ)
  beside_placing P rig rule j =
      by_cases (dec_lt j v)
      (λ h. rw (lt-ltb j v h) (rig (rig_joint j)))
      (λ d. rw (le-ltb j v (omega arith)) (rule (rule_joint (j - v))))

module _ {n : ℕ} (meet : ℕ → ℕ → ℕ) (P : Picture n) (v : ℕ) where
  -- the models of a form look at its joints only
  pub models_agree : {S : Form} → Well n v S → (σ ρ : ℕ → ℕ) → ((j : ℕ) → j < v → ρ j ≡ σ j) →
      Models meet v S P σ → Models meet v S P ρ
  models_agree {S} w σ ρ e m =
      record {
        one = λ j h. e j h ∙ m.one j h ∙ sym (e (S.class j) (omega (arith, w.class_le j h)));
        kind = λ j h. rw (e j h.0) (m.kind j h);
        link = λ j l h b known.
            rw (e j h.0)
            (m.link j l h b known ∙ sym (e _ (⊎_elim (λ u. absurd (known u)) (λ g. g.0) (w.link_smallest j l h b))));
      }

  ties_at : (ρ : ℕ → ℕ) (ts : List Tie) → All meet P ρ (map (tie_fact v) ts) ↔ Agree (at_rig ρ) (at_rule v ρ) ts
  ties_at ρ [] = (λ a. a, λ a. a)
  ties_at ρ (t ∷ ts) = keep (ties_at ρ ts)

  module _ (r : Rule) where
    -- what holds at the nodes: the ties agree and the facts hold, so that the rule is found
    module _ (ρ : ℕ → ℕ) (a : All meet P ρ (rule_node_facts v r)) where
      pub nodes_agree : Agree (at_rig ρ) (at_rule v ρ) r.ties
      nodes_agree = (ties_at ρ r.ties).0 (all_left meet P ρ (map (tie_fact v) r.ties) (map (rename (rule_node v)) r.facts) a)

      pub nodes_hold : All meet P (at_rule v ρ) r.facts
      nodes_hold =
          (all_rename meet P (rule_node v) ρ r.facts).0
          (all_right meet P ρ (map (tie_fact v) r.ties) (map (rename (rule_node v)) r.facts) a)

      pub nodes_found : Placing P ρ → Found meet P (at_rig ρ) r
      nodes_found placed = record { τ = at_rule v ρ; placed = λ u. placed (rule_node v u); agree = nodes_agree; holds = nodes_hold }

    -- where the rule is found, its ties and facts hold at the nodes
    module _ (ir : RuleInRange n v r) (σ : RigJoint → ℕ) (f : Found meet P σ r) where
      abbrev ρ : ℕ → ℕ
      ρ = beside v σ f.τ

      agree : Agree (at_rig ρ) f.τ r.ties
      agree =
          agree_along (λ e. e) v σ (at_rig ρ) (λ j h. beside_rig v σ f.τ j.0 h) r.joints f.τ r.ties ir.ties f.agree

      pub found_nodes : All meet P (beside v σ f.τ) (rule_node_facts v r)
      found_nodes =
          all_append meet P ρ (map (tie_fact v) r.ties) (map (rename (rule_node v)) r.facts)
          ((ties_at ρ r.ties).1 (rw (beside_rule v σ f.τ) agree))
          ((all_rename meet P (rule_node v) ρ r.facts).1 (rw (beside_rule v σ f.τ) f.holds))

module _ {n : ℕ} {v k : ℕ} {S E : Form} (two : 1 < n) (w : Well n v S) (x : Extends v k S E) where
  -- an old joint, a new node, or neither
  where_is : {C : Type 0} (j : ℕ) → (j < v → C) → (v ≤ j → j < v + k → C) → (v + k ≤ j → C) → C
  where_is j f g h = by_cases (dec_lt j v) f (λ d. by_cases (dec_lt j (v + k)) (λ b. g (omega arith) b) (λ c. h (omega arith)))

  smallest_old : (j : ℕ) → Smallest v S j → Smallest (v + k) E j
  smallest_old j h = (omega (arith, h.0), x.class_old j h.0 ∙ h.1)

  smallest_new : (j : ℕ) → v ≤ j → j < v + k → Smallest (v + k) E j
  smallest_new j a b = (b, x.class_new j a b)

  old_smallest : (j : ℕ) → j < v → Smallest (v + k) E j → Smallest v S j
  old_smallest j b h = (b, sym (x.class_old j b) ∙ h.1)

  pub extend_well : Well n (v + k) E
  extend_well =
      record {
        class_le = λ j h.
            where_is j
            (λ b. rw (x.class_old j b) (w.class_le j b))
            (λ a b. omega (arith, x.class_new j a b))
            (λ c. absurd (omega arith));
        class_smallest = λ j h.
            where_is j
            (λ b. rw (x.class_old j b) (x.class_old _ (omega (arith, w.class_le j b)) ∙ w.class_smallest j b))
            (λ a b. ap E.class (x.class_new j a b))
            (λ c. absurd (omega arith));
        kind_some = λ j h.
            where_is j
            (λ b. rw (x.kind_old j b) (w.kind_some j (old_smallest j b h)))
            (λ a b. rw (x.kind_new j a b) (λ e. omega arith))
            (λ c. absurd (omega (arith, h.0)));
        kind_in = λ j.
            where_is j
            (λ b. rw (x.kind_old j b) (w.kind_in j))
            (λ a b. rw (x.kind_new j a b) two)
            (λ c. rw (x.kind_rest j c) (omega arith));
        link_smallest = λ j l h b.
            where_is j
            (λ c. rw (x.link_old j l c b) (⊎_elim (λ u. inl u) (λ g. inr (smallest_old _ g)) (w.link_smallest j l (old_smallest j c h) b)))
            (λ c d. inl (x.link_new j l c d b))
            (λ c. absurd (omega (arith, h.0)));
        kind_rest = λ j d.
            where_is j
            (λ b. x.kind_old j b ∙ w.kind_rest j (λ h. d (smallest_old j h)))
            (λ a b. absurd (d (smallest_new j a b)))
            (λ c. x.kind_rest j c);
        link_rest = λ j l d b.
            where_is j
            (λ c. x.link_old j l c b ∙ w.link_rest j l (λ h. d (smallest_old j h)) b)
            (λ a c. absurd (d (smallest_new j a c)))
            (λ c. x.link_rest j l c b);
        class_rest = λ j h. x.class_rest j h;
      }

  module _ {meet : ℕ → ℕ → ℕ} (P : Picture n) (ρ : ℕ → ℕ) where
    pub extended_models : Models meet (v + k) E P ρ → Models meet v S P ρ
    extended_models m =
        record {
          one = λ j h. m.one j (omega arith) ∙ ap ρ (x.class_old j h);
          kind = λ j h. rw (x.kind_old j h.0) at (m.kind j (smallest_old j h));
          link = λ j l h b known.
              m.link j l (smallest_old j h) b (rw (x.link_old j l h.0 b) known) ∙ ap ρ (x.link_old j l h.0 b);
        }

    pub models_extended : Lawful n meet → Models meet v S P ρ → Models meet (v + k) E P ρ
    models_extended L m =
        record {
          one = λ j h.
              where_is j
              (λ b. m.one j b ∙ ap ρ (sym (x.class_old j b)))
              (λ a b. ap ρ (sym (x.class_new j a b)))
              (λ c. absurd (omega arith));
          kind = λ j h.
              where_is j
              (λ b. rw (x.kind_old j b) (m.kind j (old_smallest j b h)))
              (λ a b. rw (x.kind_new j a b) (under_any L _ two (P.in_range _)))
              (λ c. absurd (omega (arith, h.0)));
          link = λ j l h b known.
              where_is j
              (λ c. rw (x.link_old j l c b) (m.link j l (old_smallest j c h) b (rw (x.link_old j l c b) at known)))
              (λ c d. absurd (known (x.link_new j l c d b)))
              (λ c. absurd (omega (arith, h.0)));
        }
