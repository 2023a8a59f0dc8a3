-- Asking by taking: a rule is ruled out exactly when its ties and facts are refuted behind the rig's joints, and a reached rule applies
-- exactly when taking them settles nothing new. Both by the form's own picture, from which every model is a map.
-- Assumes nothing.
use mathlib.Core.Path.{◌≡◌, sym, ◌∙◌}
use mathlib.Core.Logic.{◌≢◌, by_cases, ⊎_elim}
use mathlib.Core.List.{List, map, Memᴰ}
use Prim.Native.Nat.{ℕ, ◌+◌, ◌-◌, ◌<◌, ◌≤◌}
use native.Mathlib.Omega.{arith}
use native.Mathlib.Decide.{ℕ_discrete, dec_lt}
use Rattle.kinds.specs.Laws.{Lawful}
use Rattle.kinds.proofs.Order.{under_antisym}
use Rattle.meaning.specs.declared.RigJoint.{RigJoint}
use Rattle.meaning.specs.declared.RuleJoint.{RuleJoint}
use Rattle.meaning.specs.declared.Tie.{Tie}
use Rattle.meaning.specs.Picture.{Picture, Placing, Fact, All, rename}
use Rattle.meaning.specs.Rig.{Rig, meet_of}
use Rattle.meaning.specs.Rule.{Rule, rule_joint, Agree, Found, Reached, Applies, RuledOut}
use Rattle.meaning.specs.Rule.Reached.{by_tie, by_link}
use Rattle.meaning.specs.Form.{Form, unknown, taken_facts}
use Rattle.meaning.specs.Solving.{Smallest, Well, InRange, AllInRange, Models, Taken, Refuted}
use Rattle.meaning.specs.Asking.{TiesInRange, RuleInRange, rule_number, rule_node, rule_node_facts, Extends, Settled}
use Rattle.meaning.proofs.Rigs.{LawfulRig, counts_every}
use Rattle.meaning.proofs.Facts.{by_number, all_member, models→taken, taken→models}
use Rattle.meaning.proofs.Canon.{Map, map_found, at_class, class_smallest, canon, element_smallest}
use Rattle.meaning.proofs.Canon.{canon_placing, canon_rig_placing, canon_models, applies_canon, canon_applies}
use Rattle.meaning.proofs.Takes.{taken_not_refuted}
use Rattle.meaning.proofs.Extend.{at_rig, at_rule, beside, beside_rig, beside_placing, models_agree}
use Rattle.meaning.proofs.Extend.{nodes_agree, nodes_hold, nodes_found, found_nodes, extended_models, models_extended}

range_member : {J : Type 0} (number : J → ℕ) (n k : ℕ) {f : Fact J} {fs : List (Fact J)} →
    Memᴰ f fs → AllInRange n k (map (rename number) fs) → InRange n k (rename number f)
range_member number n k (Memᴰ.head e) a = rw e a.0
range_member number n k (Memᴰ.tail m) a = range_member number n k m a.1

tie_member : (σ : RigJoint → ℕ) (τ : RuleJoint → ℕ) {t : Tie} {ts : List Tie} → Memᴰ t ts → Agree σ τ ts → τ t.rule ≡ σ t.rig
tie_member σ τ (Memᴰ.head e) a = rw e a.0
tie_member σ τ (Memᴰ.tail m) a = tie_member σ τ m a.1

tie_range : (v k : ℕ) {t : Tie} {ts : List Tie} → Memᴰ t ts → TiesInRange v k ts → (t.rule.0 < k) × (t.rig.0 < v)
tie_range v k (Memᴰ.head e) a = rw e a.0
tie_range v k (Memᴰ.tail m) a = tie_range v k m a.1

module _
    {R : Rig} (g : LawfulRig R) {S : Form} (w : Well R.kinds R.joints S)
    {r : Rule} (ir : RuleInRange R.kinds R.joints r) (small : R.joints + r.joints ≤ unknown)
    {E : Form} (x : Extends R.joints r.joints S E) where
  abbrev n : ℕ
  n = R.kinds

  abbrev v : ℕ
  v = R.joints

  abbrev meet : ℕ → ℕ → ℕ
  meet = meet_of R

  abbrev L : Lawful R.kinds (meet_of R)
  L = g.lawful

  abbrev two : 1 < R.kinds
  two = g.two

  abbrev pos : 0 < R.joints
  pos = g.some

  -- a model of S in which the rule is found is a model of E
  module _ (P : Picture n) (σ : RigJoint → ℕ) (f : Found meet P σ r) where
    found_models : Models meet v S P (by_number σ) → Models meet (v + r.joints) E P (beside v σ f.τ)
    found_models m =
        models_extended two w x P (beside v σ f.τ) L
        (models_agree meet P v w (by_number σ) (beside v σ f.τ) (beside_rig v σ f.τ) m)

  pub clash_ruled_out : Refuted n meet (v + r.joints) E (rule_node_facts v r) → RuledOut R (taken_facts v S) r
  clash_ruled_out c P σ _ placed a f =
      c P (beside v σ f.τ) (beside_placing v σ f.τ P placed f.placed)
      (found_models P σ f (taken→models L two v S P σ a))
      (found_nodes meet P v r ir σ f)

  pub ruled_out_clash : RuledOut R (taken_facts v S) r → Refuted n meet (v + r.joints) E (rule_node_facts v r)
  ruled_out_clash o P ρ placed m a =
      o P (at_rig ρ) (counts_every R.profile P) (λ j. placed j.0)
      (models→taken L two v S P (at_rig ρ) (extended_models two w x P ρ m))
      (nodes_found meet P v r ρ a placed)

  -- the ties and facts are taken: T
  module _ {T : Form} (t : Taken n meet (v + r.joints) E (rule_node_facts v r) T) where
    all_pos : 0 < v + r.joints
    all_pos = omega (arith, g.some)

    abbrev c_t : Picture n
    c_t = canon all_pos t.well

    abbrev c_s : Picture n
    c_s = canon pos w

    T_models : Models meet (v + r.joints) E c_t T.class × All meet c_t T.class (rule_node_facts v r)
    T_models = (t.means c_t T.class (canon_placing all_pos t.well)).0 (canon_models L all_pos t.well)

    -- the form's facts hold in T's picture
    T_S : Models meet v S c_t T.class
    T_S = extended_models two w x c_t T.class T_models.0

    -- and the rule is found there
    T_found : Found meet c_t (at_class T) r
    T_found = nodes_found meet c_t v r T.class T_models.1 (canon_placing all_pos t.well)

    pub taken_not_out : RuledOut R (taken_facts v S) r → ⊥
    taken_not_out o = taken_not_refuted L all_pos t (ruled_out_clash o)

    -- nothing new: T's picture is S's
    module _ (q : Settled v r.joints S T) where
      no_new : (j : ℕ) → v ≤ j → Smallest (v + r.joints) T j → ⊥
      no_new j a h =
          let e : v + (j - v) ≡ j = omega arith in
          omega (arith, h.0, h.1, rw e at (q.inside (j - v) (omega (arith, h.0))))

      same_kind : (j : ℕ) → T.kind j ≡ S.kind j
      same_kind j =
          by_cases (dec_lt j v) (q.kind j)
          (λ d. t.well.kind_rest j (no_new j (omega arith)) ∙ sym (w.kind_rest j (λ h. d h.0)))

      same_link : (j l : ℕ) → l < 16 → T.link j l ≡ S.link j l
      same_link j l b =
          by_cases (dec_lt j v) (λ h. q.link j l h b)
          (λ d. t.well.link_rest j l (no_new j (omega arith)) b ∙ sym (w.link_rest j l (λ h. d h.0) b))

      back : Map meet c_t c_s (λ e. e)
      back =
          record {
            element = λ e h. rw (← same_kind e) h;
            kind = λ e h. rw (same_kind e) (L.self _ (w.kind_in e));
            link = λ e l b h k. sym (same_link e l b);
          }

      pub settled_applies : Applies R (taken_facts v S) r
      settled_applies =
          canon_applies g w r ir
          (map_found L c_t c_s (λ e. e) back v (at_class T) (at_class S) (λ j h. sym (q.class j.0 h)) r ir T_found)

    -- the rule is found in S's picture: nothing new is settled
    module _ (f : Found meet c_s (at_class S) r) where
      ρ : ℕ → ℕ
      ρ = beside v (at_class S) f.τ

      ρ_rig : (j : ℕ) → j < v → ρ j ≡ S.class j
      unfolding ρ
      ρ_rig = beside_rig v (at_class S) f.τ

      ρ_placing : Placing c_s ρ
      unfolding ρ
      ρ_placing = beside_placing v (at_class S) f.τ c_s (canon_rig_placing pos w) f.placed

      -- T's facts hold in S's picture
      S_T : Models meet (v + r.joints) T c_s ρ
      unfolding ρ
      S_T = (t.means c_s ρ ρ_placing).1 (found_models c_s (at_class S) f (canon_models L pos w), found_nodes meet c_s v r ir (at_class S) f)

      class : (j : ℕ) → j < v → T.class j ≡ S.class j
      class j h =
          let a : T.class j ≤ j = t.well.class_le j (omega arith) in
          let b : S.class j ≤ j = w.class_le j h in
          let c : S.class j ≡ S.class (T.class j) = sym (ρ_rig j h) ∙ S_T.one j (omega arith) ∙ ρ_rig (T.class j) (omega arith) in
          let d : T.class j ≡ T.class (S.class j) = T_S.one j h in
          omega (arith, w.class_le (T.class j) (omega arith), t.well.class_le (S.class j) (omega arith))

      to_T : (j : ℕ) → Smallest v S j → Smallest (v + r.joints) T j
      to_T j h = (omega (arith, h.0), class j h.0 ∙ h.1)

      to_S : (j : ℕ) → j < v → Smallest (v + r.joints) T j → Smallest v S j
      to_S j b h = (b, sym (class j b) ∙ h.1)

      ρ_smallest : (j : ℕ) → Smallest v S j → ρ j ≡ j
      ρ_smallest j h = ρ_rig j h.0 ∙ h.1

      kind : (j : ℕ) → j < v → T.kind j ≡ S.kind j
      kind j b =
          by_cases (ℕ_discrete (S.class j) j)
          (λ e.
          under_antisym L _ _ (t.well.kind_in j) (w.kind_in j)
          (rw (to_T j (b, e)).1 at (T_S.kind j (b, e)))
          (rw (ρ_smallest j (b, e)) at (S_T.kind j (to_T j (b, e)))))
          (λ d. t.well.kind_rest j (λ h. d (to_S j b h).1) ∙ sym (w.kind_rest j (λ h. d h.1)))

      -- a link that S knows
      link_known : (j l : ℕ) → Smallest v S j → l < 16 → S.link j l ≢ unknown → T.link j l ≡ S.link j l
      link_known j l h b known =
          (rw (to_T j h).1 at (T_S.link j l h b known))
          ∙ ⊎_elim (λ z. absurd (known z)) (λ g. (to_T _ g).1) (w.link_smallest j l h b)

      -- a link that T knows is known to S: it leads to an element of S's picture
      link_back : (j l : ℕ) → Smallest v S j → l < 16 → T.link j l ≢ unknown → Smallest v S (S.link j l)
      link_back j l h b known =
          let e : S.link j l ≡ ρ (T.link j l) = rw (ρ_smallest j h) at (S_T.link j l (to_T j h) b known) in
          element_smallest pos w (S.link j l) (rw e (ρ_placing (T.link j l)))

      link : (j l : ℕ) → j < v → l < 16 → T.link j l ≡ S.link j l
      link j l b c =
          by_cases (ℕ_discrete (S.class j) j)
          (λ e.
          by_cases (ℕ_discrete (T.link j l) unknown)
          (λ z.
          by_cases (ℕ_discrete (S.link j l) unknown)
          (λ y. z ∙ sym y)
          (λ known. link_known j l (b, e) c known))
          (λ known. link_known j l (b, e) c (λ z. omega (arith, (link_back j l (b, e) c known).0))))
          (λ d. t.well.link_rest j l (λ h. d (to_S j b h).1) c ∙ sym (w.link_rest j l (λ h. d h.1) c))

      -- a reached joint is one with a rig joint: by its tie, or along a link that S knows
      inside : (u : RuleJoint) → Reached r u → T.class (rule_node v u) < v
      inside u (by_tie {t = y} m) =
          let z : (y.rule.0 < r.joints) × (y.rig.0 < v) = tie_range v r.joints m ir.ties in
          let e : T.class (rule_node v y.rule) ≡ T.class y.rig.0 =
          tie_member (at_class T) (at_rule v T.class) m (nodes_agree meet c_t v r T.class T_models.1) in
          omega (arith, t.well.class_le y.rig.0 (omega arith))
      inside u (by_link {a = a} {l = l} m g) =
          let b : l < 16 = (range_member rule_number n r.joints m ir.facts).1 in
          let c : T.class (rule_node v a) < v = inside a g in
          let e : T.link (T.class (rule_node v a)) l ≡ T.class (rule_node v u) =
          all_member meet c_t (at_rule v T.class) m (nodes_hold meet c_t v r T.class T_models.1) in
          let d : Smallest v S (T.class (rule_node v a)) = to_S _ c (class_smallest all_pos t.well (rule_node v a)) in
          let k : Smallest v S (S.link (T.class (rule_node v a)) l) =
          link_back _ l d b (λ y. omega (arith, (class_smallest all_pos t.well (rule_node v u)).0)) in
          omega (arith, link_known _ l d b (λ y. omega (arith, k.0)), k.0)

      found_settled : ((i : ℕ) → i < r.joints → Reached r (rule_joint i)) → Settled v r.joints S T
      found_settled reached = record { class = class; kind = kind; link = link; inside = λ i h. inside (rule_joint i) (reached i h) }

    pub applies_settled : ((i : ℕ) → i < r.joints → Reached r (rule_joint i)) →
        Applies R (taken_facts v S) r → Settled v r.joints S T
    applies_settled reached applies = found_settled (applies_canon g w r applies) reached
