-- The facts that the rows of a form say, and that these are the facts of a form without joins.
-- Assumes nothing.
use mathlib.Core.Path.{◌≡◌, refl, ap, subst}
use mathlib.Core.Logic.{◌≢◌, ⊎_elim, by_cases}
use mathlib.Core.Bool.{Bool, true, false, cond}
use mathlib.Core.List.{List, ◌∷◌, Memᴰ}
use Prim.Native.Nat.{ℕ, zero, suc, ◌+◌, ◌<◌, ◌≤◌}
use native.Mathlib.Omega.{arith}
use native.Mathlib.Decide.{ℕ_discrete}
use lib.Dec.{eqb}
use borrow.Author.Tests.{eq-eqb, ne_eqb}
use Rattle.meaning.specs.Picture.{Fact}
use Rattle.meaning.specs.Picture.Fact.{has_kind, same, leads}
use Rattle.meaning.specs.Form.{Form, unknown, links_from, facts_at, facts_from}

-- the joint that a fact is about
abbrev pub subject : Fact ℕ → ℕ
subject (has_kind a s) = a
subject (same a b) = a
subject (leads a l c) = a

module _ (S : Form) where
  -- the form's row at that joint says the fact
  abbrev pub Says : Fact ℕ → Type 0
  Says (has_kind a s) = (S.kind a ≢ 1) × (s ≡ S.kind a)
  Says (same a b) = ⊥
  Says (leads a l c) = (l < 16) × (S.link a l ≢ unknown) × (c ≡ S.link a l)

  -- the facts of a form without joins are those that its rows say
  links_cases : {f : Fact ℕ} (j l count : ℕ) → l + count ≤ 16 → Memᴰ f (links_from S j l count) → (subject f ≡ j) × Says f
  unfolding links_from
  links_cases j l zero h m = absurd (mathlib.Core.List.Memᴰ.not-nil m)
  links_cases {f} j l (suc count) h m =
      by_cases (ℕ_discrete (S.link j l) unknown)
      (λ e. links_cases j (suc l) count (omega arith) (rw (eq-eqb _ _ e) at m))
      (λ d.
      ⊎_elim (λ (e : f ≡ leads j l (S.link j l)). rw e (refl, (omega arith, d, refl))) (links_cases j (suc l) count (omega arith))
      (mathlib.Core.List.Memᴰ.cases_cons (rw (ne_eqb _ _ d) at m)))

  -- behind a first fact that a test may leave out
  behind : {f : Fact ℕ} (t : Bool) (g : Fact ℕ) {fs : List (Fact ℕ)} → Memᴰ f fs → Memᴰ f (cond t fs (g ∷ fs))
  behind true g m = m
  behind false g m = mathlib.Core.List.Memᴰ.tail m

  links_member : (j i l count : ℕ) → l ≤ i → i < l + count → S.link j i ≢ unknown → Memᴰ (leads j i (S.link j i)) (links_from S j l count)
  unfolding links_from
  links_member j i l zero from below known = absurd (omega arith)
  links_member j i l (suc count) from below known =
      by_cases (ℕ_discrete i l)
      (λ e. rw (ne_eqb _ _ (rw e at known)) (mathlib.Core.List.Memᴰ.head (ap (λ (k : ℕ). leads j k (S.link j k)) e)))
      (λ d. behind (eqb (S.link j l) unknown) (leads j l (S.link j l)) (links_member j i (suc l) count (omega arith) (omega arith) known))

  at_cases : {f : Fact ℕ} (j : ℕ) → S.class j ≡ j → Memᴰ f (facts_at S j) → (subject f ≡ j) × Says f
  unfolding facts_at
  at_cases {f} j e m =
      let own_facts = rw (eq-eqb _ _ e) at m in
      by_cases (ℕ_discrete (S.kind j) 1)
      (λ q. links_cases j 0 16 (omega arith) (rw (eq-eqb _ _ q) at own_facts))
      (λ d.
      ⊎_elim (λ (q : f ≡ has_kind j (S.kind j)). rw q (refl, (d, refl))) (links_cases j 0 16 (omega arith))
      (mathlib.Core.List.Memᴰ.cases_cons (rw (ne_eqb _ _ d) at own_facts)))

  at_member : (f : Fact ℕ) → S.class (subject f) ≡ subject f → Says f → Memᴰ f (facts_at S (subject f))
  unfolding facts_at
  at_member (has_kind a s) e says =
      rw (eq-eqb _ _ e, ne_eqb _ _ says.0) (mathlib.Core.List.Memᴰ.head (ap (has_kind a) says.1))
  at_member (same a b) e says = absurd says
  at_member (leads a l c) e says =
      rw (eq-eqb _ _ e)
      (behind (eqb (S.kind a) 1) (has_kind a (S.kind a))
      (mathlib.Core.List.Memᴰ.cast (ap (leads a l) says.2) (links_member a l 0 16 (omega arith) says.0 says.1)))

  -- the joints from j on, of the next count, are each its class's smallest
  abbrev pub Unjoined : ℕ → ℕ → Type 0
  Unjoined j count = (i : ℕ) → j ≤ i → i < j + count → S.class i ≡ i

  pub form_cases : {f : Fact ℕ} (j count : ℕ) → Unjoined j count → Memᴰ f (facts_from S j count) → (subject f < j + count) × Says f
  unfolding facts_from
  form_cases j zero apart m = absurd (mathlib.Core.List.Memᴰ.not-nil m)
  form_cases {f} j (suc count) apart m =
      ⊎_elim
      (λ (k : Memᴰ f (facts_at S j)). let r = at_cases j (apart j (omega arith) (omega arith)) k in (omega (arith, r.0), r.1))
      (λ (k : Memᴰ f (facts_from S (suc j) count)).
      let r = form_cases (suc j) count (λ i from below. apart i (omega arith) (omega arith)) k in (omega (arith, r.0), r.1))
      (mathlib.Core.List.Memᴰ.append_cases (facts_at S j) m)

  pub form_member : (f : Fact ℕ) (j count : ℕ) → S.class (subject f) ≡ subject f → j ≤ subject f → subject f < j + count → Says f →
      Memᴰ f (facts_from S j count)
  unfolding facts_from
  form_member f j zero apart from below says = absurd (omega arith)
  form_member f j (suc count) apart from below says =
      by_cases (ℕ_discrete (subject f) j)
      (λ e.
      mathlib.Core.List.Memᴰ.append_left (facts_from S (suc j) count) (subst (λ (x : ℕ). Memᴰ f (facts_at S x)) e (at_member f apart says)))
      (λ d. mathlib.Core.List.Memᴰ.append_right (facts_at S j) (form_member f (suc j) count apart (omega arith) (omega arith) says))
