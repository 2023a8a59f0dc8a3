-- The loops over a run, halfway: what is stored so far, and what the bytes looked at so far say. Each has a law for how it begins, for one
-- turn, and for how it ends.
-- Assumes nothing.
use mathlib.Core.Path.{◌≡◌, refl, sym, ap, ◌∙◌}
use mathlib.Core.Logic.{by_cases}
use mathlib.Core.Bool.{Bool, true, false, ◌&&◌}
use mathlib.Core.List.{List, [], ◌∷◌, ◌++◌}
use Prim.Native.Nat.{ℕ, ◌+◌, ◌≤◌, ◌<◌}
use native.Mathlib.Omega.{arith}
use native.Mathlib.Decide.{ℕ_discrete}
use native.Mathlib.Nat.{not-suc-le-zero}
use lib.Bits.{bit_or, bit_xor, or_add_and, xor_add_and, xor_self, and_le_l, and_le_r}
use lib.Dec.{eqb}
use lib.ListN.{length, get_or, set, replicate, length-set, get_or-replicate}
use lib.Seq.{get_or-set_same, get_or-set_other, ext_get_or}
use borrow.Author.Tests.{eq-eqb, ne_eqb, eqb-true, eqb-false}
use Rattle.runs.specs.Runs.{all_zero}

-- a loop at i that stores the m bytes of ys: xs has as many, and the same below i
pub record Filling (ys : List ℕ) (m i : ℕ) (xs : List ℕ) : Type 0 where
  pub wanted : length ys ≡ m
  pub size : length xs ≡ m
  pub same : (k : ℕ) → k < i → get_or xs k 0 ≡ get_or ys k 0

pub none_stored : {ys : List ℕ} {m : ℕ} {xs : List ℕ} → length ys ≡ m → length xs ≡ m → Filling ys m 0 xs
none_stored w e = record { wanted = w; size = e; same = λ k h. absurd (not-suc-le-zero h) }

module _ {ys : List ℕ} {m i : ℕ} {xs : List ℕ} (l : Filling ys m i xs) where
  pub stored : {x : ℕ} → i < m → x ≡ get_or ys i 0 → Filling ys m (i + 1) (set xs i x)
  stored {x} h e =
      record {
        wanted = l.wanted;
        size = length-set xs i x ∙ l.size;
        same = λ k g.
            by_cases (ℕ_discrete k i)
            (λ q. rw q (get_or-set_same xs i x 0 (omega (arith, l.size)) ∙ e))
            (λ d. get_or-set_other xs i k x 0 d ∙ l.same k (omega arith));
      }

  pub all_stored : m ≤ i → xs ≡ ys
  all_stored h = ext_get_or 0 xs ys (l.size ∙ sym l.wanted) (λ k g. l.same k (omega (arith, l.size)))

pub repeated : (x : ℕ) {m i : ℕ} {xs : List ℕ} → Filling (replicate m x) m i xs → i < m → Filling (replicate m x) m (i + 1) (set xs i x)
repeated x {m} {i} l h = stored l h (sym (get_or-replicate m i x 0 h))

-- the bits of two bytes together are none where both bytes have none; two bytes differ in no bit where they are equal
pub or_none : (x y : ℕ) → bit_or x y ≡ 0 → (x ≡ 0) × (y ≡ 0)
or_none x y e = let s = or_add_and x y in (omega (arith, s, and_le_r x y), omega (arith, s, and_le_l x y))

none_or : (x y : ℕ) → x ≡ 0 → y ≡ 0 → bit_or x y ≡ 0
none_or x y p q = omega (arith, or_add_and x y)

pub xor_none : (x y : ℕ) → bit_xor x y ≡ 0 → x ≡ y
xor_none x y e = omega (arith, xor_add_and x y, and_le_l x y, and_le_r x y)

none_xor : (x y : ℕ) → x ≡ y → bit_xor x y ≡ 0
none_xor x y e = rw e (xor_self y)

both_zero : (x y : ℕ) → eqb (bit_or x y) 0 ≡ (eqb x 0 && eqb y 0)
both_zero x y =
    by_cases (ℕ_discrete x 0)
    (λ p. by_cases (ℕ_discrete y 0)
    (λ q. eq-eqb _ _ (none_or x y p q) ∙ rw (eq-eqb x 0 p, eq-eqb y 0 q))
    (λ d. ne_eqb _ _ (λ e. d (or_none x y e).1) ∙ rw (eq-eqb x 0 p, ne_eqb y 0 d)))
    (λ d. ne_eqb _ _ (λ e. d (or_none x y e).0) ∙ rw (ne_eqb x 0 d))

and_assoc : (a b c : Bool) → (a && (b && c)) ≡ ((a && b) && c)
and_assoc true b c = refl
and_assoc false b c = refl

and_true : (a : Bool) → (a && true) ≡ a
and_true true = refl
and_true false = refl

zero_behind : (xs : List ℕ) (x : ℕ) → all_zero (xs ++ (x ∷ [])) ≡ (all_zero xs && eqb x 0)
unfolding all_zero
zero_behind [] x = and_true (eqb x 0)
zero_behind (y ∷ ys) x = ap (λ (b : Bool). eqb y 0 && b) (zero_behind ys x) ∙ and_assoc (eqb y 0) (all_zero ys) (eqb x 0)

-- the bits of the bytes of a run, gathered in `any`, with those of the byte behind it
pub gathered : (xs : List ℕ) (any x : ℕ) → eqb any 0 ≡ all_zero xs → eqb (bit_or any x) 0 ≡ all_zero (xs ++ (x ∷ []))
gathered xs any x e = both_zero any x ∙ ap (λ (b : Bool). b && eqb x 0) e ∙ sym (zero_behind xs x)

-- a loop at i that has gathered in `any` the bits in which the bytes of two runs differ below i
pub record Comparing (xs ys : List ℕ) (i any : ℕ) : Type 0 where
  pub size : length xs ≡ length ys
  pub same : any ≡ 0 → (k : ℕ) → k < i → get_or xs k 0 ≡ get_or ys k 0
  pub none : xs ≡ ys → any ≡ 0

pub none_compared : {xs ys : List ℕ} → length xs ≡ length ys → Comparing xs ys 0 0
none_compared e = record { size = e; same = λ _ k h. absurd (not-suc-le-zero h); none = λ _. refl }

module _ {xs ys : List ℕ} {i any : ℕ} (l : Comparing xs ys i any) where
  pub compared : Comparing xs ys (i + 1) (bit_or any (bit_xor (get_or xs i 0) (get_or ys i 0)))
  compared =
      let x = get_or xs i 0 in
      let y = get_or ys i 0 in
      record {
        size = l.size;
        same = λ e k g.
            let z = or_none any (bit_xor x y) e in
            by_cases (ℕ_discrete k i) (λ q. rw q (xor_none x y z.1)) (λ d. l.same z.0 k (omega arith));
        none = λ e. none_or any (bit_xor x y) (l.none e) (none_xor x y (ap (λ (zs : List ℕ). get_or zs i 0) e));
      }

  pub all_compared : length xs ≤ i → (eqb any 0 ≡ true → xs ≡ ys) × (eqb any 0 ≡ false → xs ≡ ys → ⊥)
  all_compared h = (
    λ t. ext_get_or 0 xs ys l.size (λ k g. l.same (eqb-true any 0 t) k (omega arith)),
    λ f e. eqb-false any 0 f (l.none e),
  )
