-- A list without repeats whose members are all in another list is no longer than it: take each member out of the other in turn.
-- Assumes nothing.
use mathlib.Core.Path.{◌≡◌, refl, sym, ◌∙◌}
use mathlib.Core.Logic.{◌≢◌, ⊎_elim}
use mathlib.Core.List.Memᴰ
use mathlib.Core.List.{List, [], ◌∷◌, ◌++◌, Memᴰ}
use Prim.Native.Nat.{suc, ◌≤◌}
use native.Mathlib.Omega.{arith}
use lib.ListN.{length}

module _ {A : Type 0} where
  -- no member stands in the list twice
  abbrev pub Distinct : List A → Type 0
  Distinct [] = Unit {0}
  Distinct (x ∷ xs) = (Memᴰ x xs → ⊥) × Distinct xs

  pub distinct_append : (xs ys : List A) → Distinct xs → Distinct ys → ((x : A) → Memᴰ x xs → Memᴰ x ys → ⊥) → Distinct (xs ++ ys)
  distinct_append [] ys a b apart = b
  distinct_append (x ∷ xs) ys a b apart = (
    λ m. ⊎_elim a.0 (apart x (Memᴰ.head refl)) (Memᴰ.append_cases xs m),
    distinct_append xs ys a.1 b (λ y m. apart y (Memᴰ.tail m)),
  )

  -- a list with one of its members taken out
  record Without (x : A) (ys : List A) : Type 0 where
    rest : List A
    shorter : length ys ≡ suc (length rest)
    keeps : (y : A) → Memᴰ y ys → y ≢ x → Memᴰ y rest

  without : {x : A} {ys : List A} → Memᴰ x ys → Without x ys
  without (Memᴰ.head {x = y} {xs = ys} e) =
      record {
        rest = ys;
        shorter = refl;
        keeps = λ z m d. ⊎_elim (λ q. absurd (d (q ∙ sym e))) (λ k. k) (Memᴰ.cases_cons m);
      }
  without (Memᴰ.tail {x = y} {xs = ys} m) =
      let w = without m in
      record {
        rest = y ∷ w.rest;
        shorter = omega (arith, w.shorter);
        keeps = λ z k d. ⊎_elim (λ q. Memᴰ.head q) (λ i. Memᴰ.tail (w.keeps z i d)) (Memᴰ.cases_cons k);
      }

  pub no_longer : (xs ys : List A) → Distinct xs → ((x : A) → Memᴰ x xs → Memᴰ x ys) → length xs ≤ length ys
  no_longer [] ys d within = omega arith
  no_longer (x ∷ xs) ys d within =
      let w = without (within x (Memᴰ.head refl)) in
      let others = no_longer xs w.rest d.1 (λ y m. w.keeps y (within y (Memᴰ.tail m)) (λ e. d.0 (Memᴰ.cast (sym e) m))) in
      omega (arith, w.shorter, others)
