-- Taking facts joins classes and parts none: a joint that is its class's smallest afterwards was so before, by the picture of the form
-- afterwards. So there are no more classes than before. Where no joints are joined there are as many as joints.
-- Assumes nothing.
use mathlib.Core.Path.{◌≡◌, refl, ap}
use mathlib.Core.Logic.{by_cases}
use mathlib.Core.List.{List}
use Prim.Native.Nat.{ℕ, zero, suc, ◌<◌, ◌≤◌}
use native.Mathlib.Omega.{arith}
use native.Mathlib.Decide.{ℕ_discrete}
use borrow.Author.Tests.{eq-eqb, ne_eqb}
use Rattle.kinds.specs.Laws.{Lawful}
use Rattle.meaning.specs.Picture.{Fact}
use Rattle.meaning.specs.Form.{Form, classes}
use Rattle.meaning.specs.Solving.{Well, Models, Taken}
use Rattle.meaning.proofs.Canon.{canon, canon_placing, canon_models}

-- as many classes as joints, where none are joined
pub classes_all : (S : Form) (k : ℕ) → ((j : ℕ) → j < k → S.class j ≡ j) → classes S k ≡ k
unfolding classes
classes_all S zero apart = refl
classes_all S (suc k) apart = rw (eq-eqb (S.class k) k (apart k (omega arith))) (ap suc (classes_all S k (λ j h. apart j (omega arith))))

module _ {n v : ℕ} {meet : ℕ → ℕ → ℕ} {S T : Form} {fs : List (Fact ℕ)} (L : Lawful n meet) (pos : 0 < v) (w : Well n v S) (t : Taken n meet v S fs T) where
  smallest_before : (j : ℕ) → j < v → T.class j ≡ j → S.class j ≡ j
  smallest_before j h e =
      let m : Models meet v S (canon pos t.well) T.class = ((t.means _ T.class (canon_placing pos t.well)).0 (canon_models L pos t.well)).0 in
      let c : S.class j < v = omega (arith, w.class_le j h) in
      omega (arith, e, m.one j h, t.well.class_le (S.class j) c, w.class_le j h)

  fewer : (k : ℕ) → k ≤ v → classes T k ≤ classes S k
  unfolding classes
  fewer zero h = omega arith
  fewer (suc k) h =
      let r : classes T k ≤ classes S k = fewer k (omega arith) in
      by_cases (ℕ_discrete (T.class k) k)
      (λ e. rw (eq-eqb _ _ e, eq-eqb _ _ (smallest_before k (omega arith) e)) (omega arith))
      (λ d.
      rw (ne_eqb _ _ d)
      (by_cases (ℕ_discrete (S.class k) k) (λ e. rw (eq-eqb _ _ e) (omega arith)) (λ c. rw (ne_eqb _ _ c) r)))

  pub fewer_classes : classes T v ≤ classes S v
  fewer_classes = fewer v (omega arith)
