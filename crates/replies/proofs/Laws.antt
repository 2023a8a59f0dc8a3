-- The first refusal of a list: that of its head, or that of the rest; what a reply that does not refuse is;
-- what a call that is done, or refused, tells.
-- Assumes nothing.
use mathlib.Core.Path.{◌≡◌, refl, sym, ◌∙◌, ap, ap₂}
use mathlib.Core.Bool.{Bool, true, false, not, cond, true≢false, false≢true}
use mathlib.Core.List.{List, [], ◌∷◌, ◌++◌}
use Prim.Native.Nat.{ℕ}
use Rattle.std.specs.Prelude.{Ok, Err, IsErrAnd}
use Rattle.std.specs.Result.{is_ok, result_and}
use Rattle.std.proofs.lemmas.Result.{err_from_is_err_and}
use Rattle.replies.specs.Replies.{Reply, refusal, third, refuses, unless, first_refusal}
use Rattle.replies.specs.declared.Cause.{Cause}
use Rattle.replies.specs.declared.Refusal.{Refusal}

-- a reply that does not refuse is done, with its third number; a refusal has third 0
pub done : (r : Reply) → refuses r ≡ false → r ≡ Ok (third r)
done (Ok t) e = refl
done (Err r) e = absurd (true≢false e)

pub refusal_third : (r : Reply) → refuses r ≡ true → third r ≡ 0
refusal_third (Ok t) e = absurd (false≢true e)
refusal_third (Err r) e = refl

-- a refusal is no reply that is done
pub not_both : {r : Reply} {t : ℕ} → refuses r ≡ true → r ≡ Ok t → ⊥
not_both e q = true≢false (sym e ∙ ap refuses q)

-- a call answers r, which is x: where it is done, x refuses nothing; where it is refused, x refuses, and what `?` hands back is x
module _ {r x : Reply} (is : r ≡ x) where
  pub went_on : {t : ℕ} → r ≡ Ok t → refuses x ≡ false
  went_on e = ap refuses (sym is ∙ e)

  pub stopped : {e : Refusal} → r ≡ Err e → refuses x ≡ true
  stopped e = ap refuses (sym is ∙ e)

  pub handed_back : {e : Refusal} {back : Reply} → r ≡ Err e → IsErrAnd back (λ y. y ≡ e) → back ≡ x
  handed_back {back = back} e b = let p = err_from_is_err_and back b in p.1 ∙ ap (λ (y : Refusal). Err y) p.2 ∙ sym e ∙ is

-- `is_ok` of an answer that is x
pub passing : {r x : Reply} {b : Bool} → r ≡ x → b ≡ is_ok r → b ≡ not (refuses x)
passing p q = q ∙ ap is_ok p ∙ decided _
  where
    decided : (y : Reply) → is_ok y ≡ not (refuses y)
    decided (Ok t) = refl
    decided (Err e) = refl

pub first_none : (last : Reply) → first_refusal [] last ≡ last
unfolding first_refusal
first_none last = refl

module _ (r : Reply) (rs : List Reply) (last : Reply) where
  pub first_here : refuses r ≡ true → first_refusal (r ∷ rs) last ≡ r
  unfolding first_refusal
  first_here e = ap (λ (t : Bool). cond t r (first_refusal rs last)) e

  pub first_next : refuses r ≡ false → first_refusal (r ∷ rs) last ≡ first_refusal rs last
  unfolding first_refusal
  first_next e = ap (λ (t : Bool). cond t r (first_refusal rs last)) e

  -- where the first does not refuse, none of its list does
  pub first_passed : refuses (first_refusal (r ∷ rs) last) ≡ false → (refuses r ≡ false) × (refuses (first_refusal rs last) ≡ false)
  unfolding first_refusal
  first_passed = passed (refuses r) refl
    where
      passed :
          (t : Bool) → refuses r ≡ t → refuses (cond t r (first_refusal rs last)) ≡ false →
          (refuses r ≡ false) × (refuses (first_refusal rs last) ≡ false)
      passed true q e = absurd (true≢false (sym q ∙ e))
      passed false q e = (q, e)

-- `and` of two replies is the first refusal of the two
pub first_of_two : {a b x y r : Reply} → a ≡ x → b ≡ y → r ≡ result_and a b → r ≡ first_refusal (x ∷ []) y
first_of_two p q e = e ∙ ap₂ result_and p q ∙ of_two _ _
  where
    of_two : (x y : Reply) → result_and x y ≡ first_refusal (x ∷ []) y
    of_two (Ok t) y = sym (first_next (Ok t) [] y refl ∙ first_none y)
    of_two (Err e) y = sym (first_here (Err e) [] y refl)

-- a test at the head of the list
module _ (b : Bool) (c : Cause) (p : ℕ) where
  pub unless_passed : refuses (unless b c p) ≡ false → b ≡ true
  unless_passed = passed b
    where
      passed : (t : Bool) → refuses (unless t c p) ≡ false → t ≡ true
      passed true e = refl
      passed false e = absurd (true≢false e)

  module _ (rs : List Reply) (last : Reply) where
    pub test_here : b ≡ false → first_refusal (unless b c p ∷ rs) last ≡ refusal c p
    test_here e = first_here (unless b c p) rs last (rw e) ∙ rw e

    pub test_next : b ≡ true → first_refusal (unless b c p ∷ rs) last ≡ first_refusal rs last
    test_next e = first_next (unless b c p) rs last (rw e)

    pub test_passed : refuses (first_refusal (unless b c p ∷ rs) last) ≡ false → (b ≡ true) × (refuses (first_refusal rs last) ≡ false)
    test_passed e = let q = first_passed (unless b c p) rs last e in (unless_passed q.0, q.1)

-- a call that goes on past a list of refusals is done with what comes last, and none of the list refused
module _ (a b : Reply) (last : Reply) where
  pub two_passed : refuses (first_refusal (a ∷ b ∷ []) last) ≡ false → (refuses a ≡ false) × (refuses b ≡ false)
  two_passed e = let q = first_passed a (b ∷ []) last e in (q.0, (first_passed b [] last q.1).0)

  pub neither : refuses a ≡ false → refuses b ≡ false → first_refusal (a ∷ b ∷ []) last ≡ last
  neither p q = first_next a (b ∷ []) last p ∙ first_next b [] last q ∙ first_none last

-- what holds of each of a list holds of each of its parts, and the other way round
abbrev pub Each : {A : Type 0} → (A → Type 0) → List A → Type 0
Each X [] = Unit {0}
Each X (x ∷ xs) = X x × Each X xs

module _ {A : Type 0} (X : A → Type 0) where
  pub each_append : (xs ys : List A) → Each X xs → Each X ys → Each X (xs ++ ys)
  each_append [] ys a b = b
  each_append (x ∷ xs) ys a b = (a.0, each_append xs ys a.1 b)

  pub each_left : (xs ys : List A) → Each X (xs ++ ys) → Each X xs
  each_left [] ys a = tt
  each_left (x ∷ xs) ys a = (a.0, each_left xs ys a.1)

  pub each_right : (xs ys : List A) → Each X (xs ++ ys) → Each X ys
  each_right [] ys a = a
  each_right (x ∷ xs) ys a = each_right xs ys a.1

-- what holds of every reply of a list and of the last holds of the first refusal
pub first_holds : (X : Reply → Type 0) (rs : List Reply) (last : Reply) → Each X rs → X last → X (first_refusal rs last)
unfolding first_refusal
first_holds X [] last each x = x
first_holds X (r ∷ rs) last each x = chosen (refuses r) each.0 (first_holds X rs last each.1 x)
  where
    chosen : (t : Bool) → X r → X (first_refusal rs last) → X (cond t r (first_refusal rs last))
    chosen true here next = here
    chosen false here next = next

-- a refusal has third 0, so that only the last reply tells another
pub first_third : (rs : List Reply) (last : Reply) → third last ≡ 0 → third (first_refusal rs last) ≡ 0
first_third [] last e = ap third (first_none last) ∙ e
first_third (r ∷ rs) last e = by_first (refuses r) refl (first_third rs last e)
  where
    by_first : (t : Bool) → refuses r ≡ t → third (first_refusal rs last) ≡ 0 → third (first_refusal (r ∷ rs) last) ≡ 0
    by_first true q next = ap third (first_here r rs last q) ∙ refusal_third r q
    by_first false q next = ap third (first_next r rs last q) ∙ next

-- a list cut in two: the first refusal is that of the front, unless it has none
pub first_front : (xs ys : List Reply) (last : Reply) → first_refusal (xs ++ ys) last ≡ first_refusal xs (first_refusal ys last)
unfolding first_refusal
first_front [] ys last = refl
first_front (x ∷ xs) ys last = ap (cond (refuses x) x) (first_front xs ys last)

module _ (xs : List Reply) (last : Reply) (t : ℕ) where
  pub front_refuses : refuses (first_refusal xs (Ok t)) ≡ true → first_refusal xs last ≡ first_refusal xs (Ok t)
  unfolding first_refusal
  front_refuses = refusal xs
    where
      chosen : (b : Bool) (x y z : Reply) → (refuses z ≡ true → y ≡ z) → refuses (cond b x z) ≡ true → cond b x y ≡ cond b x z
      chosen true x y z f h = refl
      chosen false x y z f h = f h

      refusal : (rs : List Reply) → refuses (first_refusal rs (Ok t)) ≡ true → first_refusal rs last ≡ first_refusal rs (Ok t)
      refusal [] e = absurd (false≢true e)
      refusal (r ∷ rs) e = chosen (refuses r) r (first_refusal rs last) (first_refusal rs (Ok t)) (refusal rs) e

  pub front_passes : refuses (first_refusal xs (Ok t)) ≡ false → first_refusal xs last ≡ last
  front_passes = passed xs
    where
      passed : (rs : List Reply) → refuses (first_refusal rs (Ok t)) ≡ false → first_refusal rs last ≡ last
      passed [] e = first_none last
      passed (r ∷ rs) e = let q = first_passed r rs (Ok t) e in first_next r rs last q.0 ∙ passed rs q.1
