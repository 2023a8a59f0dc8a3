-- Loops that stop at the first breach: the reply is that to what is left of the laws, and each turn leaves one part less.
-- Assumes nothing.
use mathlib.Core.Path.{◌≡◌, refl, ap, ◌∙◌, sym}
use mathlib.Core.Bool.{Bool, true, false}
use mathlib.Core.List.{List, [], ◌∷◌, ◌++◌, map, map-append, append_assoc, append-nil}
use Prim.Native.Nat.{ℕ, zero, suc, ◌+◌, ◌-◌, ◌≤◌, ◌<◌}
use native.Mathlib.Omega.{arith}
use native.Mathlib.Numerals.{add-one}
use lib.Dec.{eqb}
use borrow.Author.Tests.{eq-eqb, ne_eqb, eqb-true}
use Rattle.std.specs.Prelude.{Ok}
use Rattle.replies.specs.declared.Cause.{Cause}
use Rattle.replies.specs.Replies.{refuses, unless, first_refusal, Reply, refusal}
use Rattle.replies.proofs.Laws.{first_none, first_front, front_refuses, front_passes, first_here, first_next, unless_passed}
use Rattle.tables.specs.Check.{Law, law_reply, for_each, first_breach}

-- the laws of f at i, i + 1, .., count of them
from : (ℕ → List Law) → ℕ → ℕ → List Law
from f i zero = []
from f i (suc count) = f i ++ from f (suc i) count

-- what is left at i of the laws of f for each i below m
pub rest : (ℕ → List Law) → ℕ → ℕ → List Law
rest f i m = from f i (m - i)

module _ (f : ℕ → List Law) where
  from_last : (i count : ℕ) → from f i (suc count) ≡ from f i count ++ f (i + count)
  unfolding from
  from_last i zero = let e : i ≡ i + 0 = omega arith in append-nil (f i) ∙ ap f e
  from_last i (suc count) =
      let e : suc i + count ≡ i + suc count = omega arith in
      ap (λ (x : List Law). f i ++ x) (from_last (suc i) count ∙ ap (λ (k : ℕ). from f (suc i) count ++ f k) e)
      ∙ sym (append_assoc (f i) (from f (suc i) count) (f (i + suc count)))

  each_from : (m : ℕ) → for_each m f ≡ from f 0 m
  unfolding for_each from
  each_from zero = refl
  each_from (suc m) = let e : m ≡ 0 + m = omega arith in
      ap (λ (x : List Law). x ++ f m) (each_from m) ∙ ap (λ (k : ℕ). from f 0 m ++ f k) e ∙ sym (from_last 0 m)

  rest_start : (m : ℕ) → for_each m f ≡ rest f 0 m
  unfolding rest
  rest_start m = let e : m ≡ m - 0 = omega arith in each_from m ∙ ap (from f 0) e

  module _ {i m : ℕ} where
    rest_step : i < m → rest f i m ≡ f i ++ rest f (i + 1) m
    unfolding rest from
    rest_step h = let e : m - i ≡ suc (m - (i + 1)) = omega arith in rw (e, add-one)

    rest_end : m ≤ i → rest f i m ≡ []
    unfolding rest from
    rest_end h = let e : m - i ≡ 0 = omega arith in rw e

-- the reply to a law by its test, and where the test compares two numbers
module _ (cause : Cause) (p : ℕ) where
  pub passed : {t : Bool} → t ≡ true → refuses (unless t cause p) ≡ false
  passed e = ap (λ (t : Bool). refuses (unless t cause p)) e

  pub failed : {t : Bool} → t ≡ false → unless t cause p ≡ refusal cause p
  failed e = ap (λ (t : Bool). unless t cause p) e

  pub equal : {a b : ℕ} → a ≡ b → refuses (unless (eqb a b) cause p) ≡ false
  equal {a} {b} e = passed (eq-eqb a b e)

  pub same : {a b : ℕ} → refuses (unless (eqb a b) cause p) ≡ false → a ≡ b
  same {a} {b} e = eqb-true a b (unless_passed (eqb a b) cause p e)

  pub unequal : {a b : ℕ} → (a ≡ b → ⊥) → unless (eqb a b) cause p ≡ refusal cause p
  unequal {a} {b} d = failed (ne_eqb a b d)

module _ (n : ℕ) (table : List ℕ) where
  pub no_more : first_breach n table [] ≡ Ok 0
  unfolding first_breach
  no_more = first_none (Ok 0)

  -- the first law of a list, kept or broken
  pub first_kept : (law : Law) (more : List Law) → refuses (law_reply n table law) ≡ false → first_breach n table (law ∷ more) ≡ first_breach n table more
  unfolding first_breach
  first_kept law more e = first_next (law_reply n table law) (map (law_reply n table) more) (Ok 0) e

  pub first_broken : (law : Law) (more : List Law) {cause : Cause} {p : ℕ} → law_reply n table law ≡ refusal cause p → first_breach n table (law ∷ more) ≡ refusal cause p
  unfolding first_breach
  first_broken law more e = first_here (law_reply n table law) (map (law_reply n table) more) (Ok 0) (ap refuses e) ∙ e

  two_lists : (xs ys : List Law) → first_breach n table (xs ++ ys) ≡ first_refusal (map (law_reply n table) xs) (first_breach n table ys)
  unfolding first_breach
  two_lists xs ys = ap (λ (rs : List Reply). first_refusal rs (Ok 0)) (map-append (law_reply n table) xs ys) ∙ first_front _ _ _

  -- the first breach of two lists is that of the first, unless it has none
  pub first_of : (xs ys : List Law) → refuses (first_breach n table xs) ≡ true → first_breach n table (xs ++ ys) ≡ first_breach n table xs
  unfolding first_breach
  first_of xs ys e = two_lists xs ys ∙ front_refuses _ _ _ e

  pub second_of : (xs ys : List Law) → refuses (first_breach n table xs) ≡ false → first_breach n table (xs ++ ys) ≡ first_breach n table ys
  unfolding first_breach
  second_of xs ys e = two_lists xs ys ∙ front_passes _ _ _ e

-- a loop at i: the reply r is that to the laws of f from i on, and then to more
pub record Loop (n : ℕ) (table : List ℕ) (r : Reply) (f : ℕ → List Law) (i m : ℕ) (more : List Law) : Type 0 where
  pub is : r ≡ first_breach n table (rest f i m ++ more)

pub begins : (n : ℕ) (table : List ℕ) (f : ℕ → List Law) (m : ℕ) → Loop n table (first_breach n table (for_each m f)) f 0 m []
begins n table f m = record { is = ap (first_breach n table) (rest_start f m ∙ sym (append-nil (rest f 0 m))) }

module _ {n : ℕ} {table : List ℕ} {r : Reply} {f : ℕ → List Law} {i m : ℕ} {more : List Law} (l : Loop n table r f i m more) where
  turn : i < m → r ≡ first_breach n table (f i ++ (rest f (i + 1) m ++ more))
  turn h =
      l.is
      ∙ ap (λ (x : List Law). first_breach n table (x ++ more)) (rest_step f h)
      ∙ ap (first_breach n table) (append_assoc (f i) (rest f (i + 1) m) more)

  -- the turn is a loop over g
  pub opens : (g : ℕ → List Law) (k : ℕ) → i < m → f i ≡ for_each k g → Loop n table r g 0 k (rest f (i + 1) m ++ more)
  opens g k h e =
      record {
        is = turn h ∙ ap (λ (x : List Law). first_breach n table (x ++ (rest f (i + 1) m ++ more))) (e ∙ rest_start g k);
      }

  pub passes : i < m → refuses (first_breach n table (f i)) ≡ false → Loop n table r f (i + 1) m more
  passes h e = record { is = turn h ∙ second_of n table (f i) (rest f (i + 1) m ++ more) e }

  pub stops : i < m → refuses (first_breach n table (f i)) ≡ true → r ≡ first_breach n table (f i)
  stops h e = turn h ∙ first_of n table (f i) (rest f (i + 1) m ++ more) e

  pub closes : m ≤ i → r ≡ first_breach n table more
  closes h = l.is ∙ ap (λ (x : List Law). first_breach n table (x ++ more)) (rest_end f h)

-- a loop that begins at t, where nothing is broken before
pub begins_at :
    (n : ℕ) (table : List ℕ) (r : Reply) (f : ℕ → List Law) (m : ℕ) (more : List Law) (t : ℕ) → t ≤ m → Loop n table r f 0 m more →
    ((x : ℕ) → x < t → refuses (first_breach n table (f x)) ≡ false) → Loop n table r f t m more
begins_at n table r f m more zero h l e = l
begins_at n table r f m more (suc t) h l e =
    rw add-one at (passes (begins_at n table r f m more t (omega arith) l (λ x a. e x (omega arith))) (omega arith) (e t (omega arith)))

-- a loop whose turn is one law
module _
    {n : ℕ} {table : List ℕ} {r : Reply} {f : ℕ → List Law} {i m : ℕ} {more : List Law} (l : Loop n table r f i m more) (h : i < m) {law : Law}
    (one : f i ≡ law ∷ []) where
  pub kept : refuses (law_reply n table law) ≡ false → Loop n table r f (i + 1) m more
  kept e = passes l h (ap refuses (ap (first_breach n table) one ∙ first_kept n table law [] e ∙ no_more n table))

  pub broken : {cause : Cause} {p : ℕ} → law_reply n table law ≡ refusal cause p → r ≡ refusal cause p
  broken {cause} {p} e = let q : first_breach n table (f i) ≡ refusal cause p = ap (first_breach n table) one ∙ first_broken n table law [] e in
      stops l h (ap refuses q) ∙ q
