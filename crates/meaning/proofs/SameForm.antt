-- Forms that are equal at every joint: they have the same facts, models and classes, and are well formed together.
-- Assumes nothing.
use mathlib.Core.Path.{◌≡◌, refl, sym, ap, ◌∙◌}
use mathlib.Core.Logic.{◌↔◌, ◌⊎◌, inl, inr, by_cases}
use mathlib.Core.List.{map}
use Prim.Native.Nat.{ℕ, zero, suc, ◌+◌, ◌<◌, ◌≤◌}
use native.Mathlib.Omega.{arith}
use native.Mathlib.Decide.{dec_lt}
use Rattle.meaning.specs.Picture.{Picture, rename}
use Rattle.meaning.specs.Form.{Form, unknown, links_from, facts_at, facts_from, rig_joint, taken_facts, classes}
use Rattle.meaning.specs.Solving.{Smallest, Well, Models}
use Rattle.meaning.specs.Asking.{Extends}

-- equal at every joint
pub record SameForm (S T : Form) : Type 0 where
  pub class : (j : ℕ) → S.class j ≡ T.class j
  pub kind : (j : ℕ) → S.kind j ≡ T.kind j
  pub link : (j l : ℕ) → l < 16 → S.link j l ≡ T.link j l

-- forms that are equal at every joint have the same facts, models and classes, and are well formed together
module _ {S T : Form} (e : SameForm S T) where
  pub form_sym : SameForm T S
  form_sym = record { class = λ j. sym (e.class j); kind = λ j. sym (e.kind j); link = λ j l b. sym (e.link j l b) }

  to_first : {v : ℕ} (j : ℕ) → Smallest v T j → Smallest v S j
  to_first j h = (h.0, e.class j ∙ h.1)

  pub form_well : {n v : ℕ} → Well n v S → Well n v T
  form_well {n} {v} w =
      record {
        class_le = λ j h. omega (arith, w.class_le j h, e.class j);
        class_smallest = λ j h. (rw (e.class j, e.class (T.class j)) at (w.class_smallest j h));
        kind_some = λ j h z. w.kind_some j (to_first j h) (e.kind j ∙ z);
        kind_in = λ j. omega (arith, w.kind_in j, e.kind j);
        link_smallest = λ j l h b. link_end j l b (w.link_smallest j l (to_first j h) b);
        kind_rest = λ j d. sym (e.kind j) ∙ w.kind_rest j (λ h. d (to_second j h));
        link_rest = λ j l d b. sym (e.link j l b) ∙ w.link_rest j l (λ h. d (to_second j h)) b;
        class_rest = λ j h. sym (e.class j) ∙ w.class_rest j h;
      }
    where
      to_second : (j : ℕ) → Smallest v S j → Smallest v T j
      to_second j h = (h.0, sym (e.class j) ∙ h.1)

      link_end : (j l : ℕ) → l < 16 → (S.link j l ≡ unknown) ⊎ Smallest v S (S.link j l) → (T.link j l ≡ unknown) ⊎ Smallest v T (T.link j l)
      link_end j l b (inl q) = inl (sym (e.link j l b) ∙ q)
      link_end j l b (inr h) = inr (rw (e.link j l b) at (to_second (S.link j l) h))

  models_one : {n : ℕ} {meet : ℕ → ℕ → ℕ} {v : ℕ} {P : Picture n} {σ : ℕ → ℕ} → Models meet v S P σ → Models meet v T P σ
  models_one {σ = σ} m =
      record {
        one = λ j h. m.one j h ∙ ap σ (e.class j);
        kind = λ j h. rw (e.kind j) at (m.kind j (to_first j h));
        link = λ j l h b known.
            m.link j l (to_first j h) b (λ u. known (sym (e.link j l b) ∙ u)) ∙ ap σ (e.link j l b);
      }

  links_same : (j l count : ℕ) → l + count ≤ 16 → links_from S j l count ≡ links_from T j l count
  unfolding links_from
  links_same j l zero h = refl
  links_same j l (suc count) h = rw (e.link j l (omega arith), links_same j (suc l) count (omega arith))

  facts_at_same : (j : ℕ) → facts_at S j ≡ facts_at T j
  unfolding facts_at
  facts_at_same j = rw (e.class j, e.kind j, links_same j 0 16 (omega arith))

  facts_from_same : (j count : ℕ) → facts_from S j count ≡ facts_from T j count
  unfolding facts_from
  facts_from_same j zero = refl
  facts_from_same j (suc count) = rw (facts_at_same j, facts_from_same (suc j) count)

  pub form_facts : (v : ℕ) → taken_facts v S ≡ taken_facts v T
  form_facts v = ap (map (rename rig_joint)) (facts_from_same 0 v)

  pub form_classes : (v : ℕ) → classes S v ≡ classes T v
  unfolding classes
  form_classes zero = refl
  form_classes (suc k) = rw (e.class k, form_classes k)

pub form_models : {S T : Form} → SameForm S T → {n : ℕ} {meet : ℕ → ℕ → ℕ} {v : ℕ} {P : Picture n} {σ : ℕ → ℕ} →
    Models meet v S P σ ↔ Models meet v T P σ
form_models e = (models_one e, models_one (form_sym e))

-- with no free node the unpacked form is the block's own
pub unpacked_same : {n v : ℕ} {S E : Form} → Well n v S → Extends v 0 S E → SameForm S E
unpacked_same {n} {v} {S} {E} w x =
    record {
      class = λ j. old_or_rest j (λ h. sym (x.class_old j h)) (λ h. w.class_rest j h ∙ sym (x.class_rest j (omega arith)));
      kind = λ j. old_or_rest j (λ h. sym (x.kind_old j h)) (λ h. w.kind_rest j (λ s. omega (arith, s.0)) ∙ sym (x.kind_rest j (omega arith)));
      link = λ j l b.
          old_or_rest j (λ h. sym (x.link_old j l h b)) (λ h. w.link_rest j l (λ s. omega (arith, s.0)) b ∙ sym (x.link_rest j l (omega arith) b));
    }
  where
    old_or_rest : {C : Type 0} (j : ℕ) → (j < v → C) → (v ≤ j → C) → C
    old_or_rest j f g = by_cases (dec_lt j v) f (λ d. g (omega arith))
