-- Two well-formed forms of one meaning are equal, joint by joint: the picture of each satisfies the other, which bounds its classes and
-- kinds from both sides and fixes its links. So taking facts allows one result.
-- Assumes nothing.
use mathlib.Core.Path.{◌≡◌, sym, ◌∙◌}
use mathlib.Core.Logic.Dec
use mathlib.Core.Logic.{◌↔◌, ◌≢◌, by_cases, ⊎_elim}
use mathlib.Core.List.{List}
use Prim.Native.Nat.{ℕ, ◌<◌, ◌≤◌}
use native.Mathlib.Omega.{arith}
use native.Mathlib.Decide.{ℕ_discrete, dec_lt}
use Rattle.kinds.specs.Kinds.{Under}
use Rattle.kinds.specs.Laws.{Lawful}
use Rattle.kinds.proofs.Order.{under_antisym}
use Rattle.meaning.specs.declared.RigJoint.{RigJoint}
use Rattle.meaning.specs.Picture.{Picture, Placing, Fact}
use Rattle.meaning.specs.Rig.{Rig, SameMeaning}
use Rattle.meaning.specs.Form.{Form, unknown, taken_facts}
use Rattle.meaning.specs.Solving.{Smallest, Well, Models, Taken}
use Rattle.meaning.proofs.Rigs.{LawfulRig, counts_every}
use Rattle.meaning.proofs.Facts.{taken→models}
use Rattle.meaning.proofs.SameForm.{SameForm}
use Rattle.meaning.proofs.Canon.{canon, canon_placing, canon_rig_placing, canon_models, canon_taken, at_class}

module _
    {n : ℕ} {meet : ℕ → ℕ → ℕ} {v : ℕ} (pos : 0 < v) {S T : Form} (s : Well n v S) (t : Well n v T)
    (m : Models meet v T (canon pos s) S.class) where
  -- the picture of S satisfies T: what this gives of T
  half_class : (j : ℕ) → j < v → S.class j ≤ T.class j
  half_class j h = omega (arith, m.one j h, s.class_le (T.class j) (omega (arith, t.class_le j h)))

  module _ (class : (j : ℕ) → S.class j ≡ T.class j) (j : ℕ) (h : Smallest v S j) where
    in_T : Smallest v T j
    in_T = (h.0, sym (class j) ∙ h.1)

    half_kind : Under meet (S.kind j) (T.kind j)
    half_kind = rw h.1 at (m.kind j in_T)

    half_link : (l : ℕ) → l < 16 → T.link j l ≢ unknown → S.link j l ≡ T.link j l
    half_link l b known =
        (rw h.1 at (m.link j l in_T b known))
        ∙ class (T.link j l)
        ∙ ⊎_elim (λ u. absurd (known u)) (λ g. g.1) (t.link_smallest j l in_T b)

module _ {n : ℕ} {meet : ℕ → ℕ → ℕ} (L : Lawful n meet) {v : ℕ} (pos : 0 < v) {S T : Form} (s : Well n v S) (t : Well n v T) where
  -- the picture of each satisfies the other
  module _ (st : Models meet v T (canon pos s) S.class) (ts : Models meet v S (canon pos t) T.class) where
    class : (j : ℕ) → S.class j ≡ T.class j
    class j =
        by_cases (dec_lt j v)
        (λ h. omega (arith, half_class pos s t st j h, half_class pos t s ts j h))
        (λ d. s.class_rest j (omega arith) ∙ sym (t.class_rest j (omega arith)))

    to_T : (j : ℕ) → Smallest v S j → Smallest v T j
    to_T j h = (h.0, sym (class j) ∙ h.1)

    to_S : (j : ℕ) → Smallest v T j → Smallest v S j
    to_S j h = (h.0, class j ∙ h.1)

    by_smallest : {C : Type 0} (j : ℕ) → (Smallest v S j → C) → ((Smallest v S j → ⊥) → C) → C
    by_smallest j f g = by_cases (Dec.and (dec_lt j v) (ℕ_discrete (S.class j) j)) f g

    kind : (j : ℕ) → S.kind j ≡ T.kind j
    kind j =
        by_smallest j
        (λ h.
        under_antisym L _ _ (s.kind_in j) (t.kind_in j)
        (half_kind pos s t st class j h)
        (half_kind pos t s ts (λ k. sym (class k)) j (to_T j h)))
        (λ d. s.kind_rest j d ∙ sym (t.kind_rest j (λ h. d (to_S j h))))

    link : (j l : ℕ) → l < 16 → S.link j l ≡ T.link j l
    link j l b =
        by_smallest j
        (λ h.
        by_cases (ℕ_discrete (T.link j l) unknown)
        (λ u.
        by_cases (ℕ_discrete (S.link j l) unknown)
        (λ q. q ∙ sym u)
        (λ known. sym (half_link pos t s ts (λ i. sym (class i)) j (to_T j h) l b known)))
        (λ known. half_link pos s t st class j h l b known))
        (λ d. s.link_rest j l d b ∙ sym (t.link_rest j l (λ h. d (to_S j h)) b))

    pub each_satisfies : SameForm S T
    each_satisfies = record { class = class; kind = kind; link = link }

  -- the same models
  pub same_models : ((P : Picture n) (σ : ℕ → ℕ) → Placing P σ → Models meet v S P σ ↔ Models meet v T P σ) → SameForm S T
  same_models e =
      each_satisfies
      ((e _ _ (canon_placing pos s)).0 (canon_models L pos s))
      ((e _ _ (canon_placing pos t)).1 (canon_models L pos t))

-- over a rig: taken facts of one meaning
module _ {R : Rig} (g : LawfulRig R) {S T : Form} (s : Well R.kinds R.joints S) (t : Well R.kinds R.joints T) where
  pub same_meaning : SameMeaning R (taken_facts R.joints S) (taken_facts R.joints T) → SameForm S T
  same_meaning e =
      let v = R.joints in
      let L = g.lawful in
      let cs = canon g.some s in
      let ct = canon g.some t in
      each_satisfies L g.some s t
      (taken→models L g.two v T cs (at_class S)
      ((e cs (at_class S) (counts_every R.profile cs) (canon_rig_placing g.some s)).0 (canon_taken L g.two g.some s)))
      (taken→models L g.two v S ct (at_class T)
      ((e ct (at_class T) (counts_every R.profile ct) (canon_rig_placing g.some t)).1 (canon_taken L g.two g.some t)))

  -- two forms that mean what one list of facts means
  pub one_form :
      (gs : List (Fact RigJoint)) → SameMeaning R (taken_facts R.joints S) gs → SameMeaning R (taken_facts R.joints T) gs → SameForm S T
  one_form gs a b =
      same_meaning
      (λ P σ c placed. (λ x. (b P σ c placed).1 ((a P σ c placed).0 x), λ x. (a P σ c placed).1 ((b P σ c placed).0 x)))

-- two forms that a taking allows
module _ {n : ℕ} {meet : ℕ → ℕ → ℕ} (L : Lawful n meet) {v : ℕ} (pos : 0 < v) where
  pub taken_one : {S : Form} {fs : List (Fact ℕ)} {T T' : Form} → Taken n meet v S fs T → Taken n meet v S fs T' → SameForm T T'
  taken_one a b =
      same_models L pos a.well b.well
      (λ P σ placed. (λ m. (b.means P σ placed).1 ((a.means P σ placed).0 m), λ m. (a.means P σ placed).1 ((b.means P σ placed).0 m)))
