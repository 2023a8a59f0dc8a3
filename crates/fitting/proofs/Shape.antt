-- The session's own bytes fit exactly when V is in range and their form is well formed: each test of the definition is read as the fact it
-- tests, both ways. The form's lists end at joint 64, so that joints from there on have class, kind and links 0 without a test.
-- Assumes nothing.
use Rattle.std.proofs.Common.{◌≡◌, ℕ, ◌<◌, ◌≤◌, Bool, true, false, ◌&&◌, ◌||◌, eqb, ltb, leb, ◌≢◌, ◌⊎◌, List, sym, refl, ◌∙◌, inl, inr, ⊎_elim, arith, ltb-false, ltb-true, le-ltb, lt-ltb, eq-eqb, eqb-true, le-leb, leb-true}
use mathlib.Core.Logic.Dec
use mathlib.Core.Logic.{by_cases}
use native.Mathlib.Decide.{ℕ_discrete, dec_lt}
use Rattle.meaning.specs.Form.{Form, unknown}
use Rattle.meaning.specs.Solving.{Smallest, Well}
use Rattle.joints.specs.Layout.{joints_of, block_form}
use Rattle.joints.proofs.Parts.{Ends, block_ends}
use Rattle.runs.specs.Runs.{within}
use Rattle.fitting.specs.Fits.{all, smallest, class_fits, kind_fits, link_fits, joint_fits, joints_fit}
use Rattle.fitting.proofs.Tests.{or_right, chosen, then, else, range_use, range_make, all_use, all_make}
use Rattle.std.proofs.lemmas.Bool.{and_from, or_cases, and_parts}

module _ (n v : ℕ) (S : Form) where
  smallest_use : (j : ℕ) → smallest v S j ≡ true → Smallest v S j
  smallest_use j e =
      (ltb-true _ _ (and_parts (ltb j v) (eqb (S.class j) j) e).0, eqb-true _ _ (and_parts (ltb j v) (eqb (S.class j) j) e).1)

  smallest_make : (j : ℕ) → Smallest v S j → smallest v S j ≡ true
  smallest_make j h = and_from (ltb j v) (eqb (S.class j) j) (lt-ltb _ _ h.0) (eq-eqb _ _ h.1)

  smallest_not : (j : ℕ) → (Smallest v S j → ⊥) → smallest v S j ≡ false
  smallest_not j d = is_false (smallest v S j) (λ e. d (smallest_use j e))
    where
      is_false : (a : Bool) → (a ≡ true → ⊥) → a ≡ false
      is_false true f = absurd (f refl)
      is_false false f = refl

  not_smallest : (j : ℕ) → smallest v S j ≡ false → Smallest v S j → ⊥
  not_smallest j e h = let z : ◌≡◌ {A = Bool} true false = sym (smallest_make j h) ∙ e in let q : ◌≡◌ {A = ℕ} 0 1 = cc in omega arith

  by_smallest : {C : Type 0} (j : ℕ) → (Smallest v S j → C) → ((Smallest v S j → ⊥) → C) → C
  by_smallest j f g = by_cases (Dec.and (dec_lt j v) (ℕ_discrete (S.class j) j)) f g

  -- where every joint fits, the form is well formed
  module _ (fits : (j : ℕ) → j < 64 → joint_fits n v S j ≡ true) where
    class_fits_lem : (j : ℕ) → j < 64 → class_fits v S j ≡ true
    class_fits_lem j h = (and_parts (class_fits v S j) (kind_fits n v S j && all (link_fits v S j) 0 16) (fits j h)).0

    rest_fits : (j : ℕ) → j < 64 → (kind_fits n v S j && all (link_fits v S j) 0 16) ≡ true
    rest_fits j h = (and_parts (class_fits v S j) (kind_fits n v S j && all (link_fits v S j) 0 16) (fits j h)).1

    kind_fits_lem : (j : ℕ) → j < 64 → kind_fits n v S j ≡ true
    kind_fits_lem j h = (and_parts (kind_fits n v S j) (all (link_fits v S j) 0 16) (rest_fits j h)).0

    link_fits_lem : (j l : ℕ) → j < 64 → l < 16 → link_fits v S j l ≡ true
    link_fits_lem j l h b =
        all_use (link_fits v S j) 0 16 (and_parts (kind_fits n v S j) (all (link_fits v S j) 0 16) (rest_fits j h)).1 l (omega arith) (omega arith)

    in_range : (j : ℕ) → j < 64 → Smallest v S j → (leb 1 (S.kind j) && ltb (S.kind j) n) ≡ true
    in_range j h s = then (smallest v S j) _ (eqb (S.kind j) 0) (smallest_make j s) (kind_fits_lem j h)

    -- below v a class number is at most its joint, and a smallest joint
    numbered : (j : ℕ) → j < 64 → j < v → (leb (S.class j) j && smallest v S (S.class j)) ≡ true
    numbered j h g = then (ltb j v) _ (eqb (S.class j) 0) (lt-ltb _ _ g) (class_fits_lem j h)

    module _ (low : 1 ≤ n) (high : v ≤ 64) (ends : Ends S) where
      kind_rest : (j : ℕ) → (Smallest v S j → ⊥) → S.kind j ≡ 0
      kind_rest j d =
          by_cases (dec_lt j 64)
          (λ h. eqb-true _ _ (else (smallest v S j) _ (eqb (S.kind j) 0) (smallest_not j d) (kind_fits_lem j h)))
          (λ f. ends.kind j (omega arith))

      link_rest : (j l : ℕ) → (Smallest v S j → ⊥) → l < 16 → S.link j l ≡ 0
      link_rest j l d b =
          by_cases (dec_lt j 64)
          (λ h. eqb-true _ _ (else (smallest v S j) _ (eqb (S.link j l) 0) (smallest_not j d) (link_fits_lem j l h b)))
          (λ f. ends.link j l (omega arith))

      fits_well : Well n v S
      fits_well =
          record {
            class_le = λ j h. leb-true _ _ (and_parts (leb (S.class j) j) _ (numbered j (omega arith) h)).0;
            class_smallest = λ j h. (smallest_use _ (and_parts (leb (S.class j) j) _ (numbered j (omega arith) h)).1).1;
            kind_some = λ j s z.
                let g : 1 ≤ S.kind j = leb-true _ _ (and_parts (leb 1 (S.kind j)) _ (in_range j (omega arith) s)).0 in
                omega arith;
            kind_in = λ j.
                by_smallest j
                (λ s. ltb-true _ _ (and_parts (leb 1 (S.kind j)) _ (in_range j (omega arith) s)).1)
                (λ d. omega (arith, kind_rest j d));
            link_smallest = λ j l s b.
                ⊎_elim (λ e. inl (eqb-true _ _ e)) (λ e. inr (smallest_use _ e))
                (or_cases (eqb (S.link j l) unknown) _
                (then (smallest v S j) _ (eqb (S.link j l) 0) (smallest_make j s) (link_fits_lem j l (omega arith) b)));
            kind_rest = kind_rest;
            link_rest = link_rest;
            class_rest = λ j h.
                by_cases (dec_lt j 64)
                (λ g. eqb-true _ _ (else (ltb j v) _ (eqb (S.class j) 0) (le-ltb _ _ h) (class_fits_lem j g)))
                (λ f. ends.class j (omega arith));
          }

  -- in a well-formed form every joint fits
  pub well_fits : Well n v S → (j : ℕ) → joint_fits n v S j ≡ true
  well_fits w j =
      and_from (class_fits v S j) (kind_fits n v S j && all (link_fits v S j) 0 16)
      (chosen (ltb j v) _ (eqb (S.class j) 0)
      (λ e.
      let h : j < v = ltb-true _ _ e in
      and_from (leb (S.class j) j) _ (le-leb _ _ (w.class_le j h))
      (smallest_make _ (omega (arith, w.class_le j h), w.class_smallest j h)))
      (λ e. eq-eqb _ _ (w.class_rest j (ltb-false _ _ e))))
      (and_from (kind_fits n v S j) (all (link_fits v S j) 0 16)
      (chosen (smallest v S j) _ (eqb (S.kind j) 0)
      (λ e.
      let some : S.kind j ≢ 0 = w.kind_some j (smallest_use j e) in
      and_from (leb 1 (S.kind j)) _ (le-leb 1 (S.kind j) (omega arith)) (lt-ltb _ _ (w.kind_in j)))
      (λ e. eq-eqb _ _ (w.kind_rest j (not_smallest j e))))
      (all_make (link_fits v S j) 0 16
      (λ l a b.
      chosen (smallest v S j) _ (eqb (S.link j l) 0)
      (λ e. link_end l (w.link_smallest j l (smallest_use j e) (omega arith)))
      (λ e. eq-eqb _ _ (w.link_rest j l (not_smallest j e) (omega arith))))))
    where
      link_end : (l : ℕ) → (S.link j l ≡ unknown) ⊎ Smallest v S (S.link j l) →
          (eqb (S.link j l) unknown || smallest v S (S.link j l)) ≡ true
      link_end l (inl e) = rw (eq-eqb _ _ e)
      link_end l (inr s) = or_right (eqb (S.link j l) unknown) _ (smallest_make _ s)

-- the clauses about the session's own bytes, for n kinds
pub record WellJoints (n : ℕ) (b : List ℕ) : Type 0 where
  pub v_low : 1 ≤ joints_of b
  pub v_high : joints_of b ≤ 64
  pub well : Well n (joints_of b) (block_form b)

module _ (n : ℕ) (b : List ℕ) where
  pub joints_apart : 1 ≤ n → joints_fit n b ≡ true → WellJoints n b
  unfolding joints_fit
  joints_apart low e =
      let v = joints_of b in
      let in_v = range_use 1 64 v (and_parts (within 1 64 v) each_fits e).0 in
      record {
        v_low = in_v.0;
        v_high = in_v.1;
        well =
            fits_well n v (block_form b)
            (λ j h. all_use (joint_fits n v (block_form b)) 0 64 (and_parts (within 1 64 v) each_fits e).1 j (omega arith) (omega arith))
            low in_v.1 (block_ends b);
      }
    where
      each_fits : Bool
      each_fits = all (joint_fits n (joints_of b) (block_form b)) 0 64

  pub joints_together : WellJoints n b → joints_fit n b ≡ true
  unfolding joints_fit
  joints_together w =
      let v = joints_of b in
      and_from (within 1 64 v) _ (range_make 1 64 v w.v_low w.v_high)
      (all_make (joint_fits n v (block_form b)) 0 64 (λ j _ _. well_fits n v (block_form b) w.well j))
