-- Where the mask of each meet is the `&` of two masks, and no two kinds have one mask, meet is associative, because `&` is. Nothing else is
-- asked of the masks. What is seen of each pair from one side holds of all pairs.
-- Assumes nothing.
use mathlib.Core.Path.{◌≡◌, refl, sym, ap, ap₂, ◌∙◌}
use mathlib.Core.Logic.{by_cases}
use mathlib.Core.List.{List}
use Prim.Native.Nat.{ℕ, ◌+◌, ◌*◌, ◌/◌, ◌%◌, ◌<◌, min}
use native.Mathlib.Omega.{arith}
use native.Mathlib.Decide.{dec_lt}
use lib.Arith.{bin_ind}
use lib.Bits.{bit_and, and_step, and_comm, and_self, and_shr}
use lib.ListN.{get_or}
use Rattle.runs.proofs.Bits.{and_odd}
use Rattle.kinds.specs.Kinds.{meet_at}
use Rattle.kinds.specs.Laws.{Associates, Lawful}
use Rattle.kinds.specs.Sizes.{AllKinds}
use Rattle.kinds.proofs.Offset.{offset_lt}
use Rattle.masks.specs.Masks.{Single, Embedded, Apart}

and_half : (a b : ℕ) → bit_and a b / 2 ≡ bit_and (a / 2) (b / 2)
and_half a b = and_shr a b 1

min_assoc : (a b c : ℕ) → min (min a b) c ≡ min a (min b c)
min_assoc a b c = omega arith

and_assoc : (a b c : ℕ) → bit_and (bit_and a b) c ≡ bit_and a (bit_and b c)
and_assoc =
    bin_ind (λ (a : ℕ). (b c : ℕ) → bit_and (bit_and a b) c ≡ bit_and a (bit_and b c)) (λ b c. refl)
    (λ a ih b c.
    and_step (bit_and a b) c
    ∙ ap₂ (λ (x y : ℕ). bit_and x (c / 2) * 2 + min y (c % 2)) (and_half a b) (and_odd a b)
    ∙ ap₂ (λ (x y : ℕ). x * 2 + y) (ih (b / 2) (c / 2)) (min_assoc (a % 2) (b % 2) (c % 2))
    ∙ sym (and_step a (bit_and b c) ∙ ap₂ (λ (x y : ℕ). bit_and (a / 2) x * 2 + min (a % 2) y) (and_half b c) (and_odd b c)))

-- what every kind says of itself, and of each two the larger of the smaller
module _ (n : ℕ) (table masks : List ℕ) (kinds : AllKinds n table) (single : (i : ℕ) → i < n → Single (meet_at n table) i)
    (pair : (i : ℕ) → i < n → (j : ℕ) → j < i → Embedded (meet_at n table) masks i j) where
  closed : (i j : ℕ) → i < n → j < n → meet_at n table i j < n
  closed i j hi hj = kinds (i * n + j) (offset_lt hi hj)

  every_pair : (i j : ℕ) → i < n → j < n → Embedded (meet_at n table) masks i j
  every_pair i j hi hj =
      by_cases (dec_lt j i) (λ l. pair i hi j l)
      (λ g. by_cases (dec_lt i j)
      (λ l. let p = pair j hj i l in
      record {
        swap = sym p.swap;
        common = ap (λ (x : ℕ). get_or masks x 0) (sym p.swap) ∙ p.common ∙ and_comm (get_or masks j 0) (get_or masks i 0);
      })
      (λ g'. let e : i ≡ j = omega arith in
      rw (sym e)
      (record { swap = refl; common = ap (λ (x : ℕ). get_or masks x 0) (single i hi).self ∙ sym (and_self (get_or masks i 0)) })))

  associates : Apart n masks → Associates n (meet_at n table)
  associates apart i j k hi hj hk =
      let u : ℕ → ℕ = λ x. get_or masks x 0 in
      let m : ℕ → ℕ → ℕ = meet_at n table in
      let ij = closed i j hi hj in
      let jk = closed j k hj hk in
      apart (m (m i j) k) (m i (m j k)) (closed (m i j) k ij hk) (closed i (m j k) hi jk)
      ((every_pair (m i j) k ij hk).common ∙ ap (λ (x : ℕ). bit_and x (u k)) (every_pair i j hi hj).common
      ∙ and_assoc (u i) (u j) (u k)
      ∙ sym ((every_pair i (m j k) hi jk).common ∙ ap (bit_and (u i)) (every_pair j k hj hk).common))

  pub seen_lawful : Apart n masks → Lawful n (meet_at n table)
  seen_lawful apart =
      record {
        closed = closed;
        self = λ i hi. (single i hi).self;
        none = λ i hi. (single i hi).none;
        any = λ i hi. (single i hi).any;
        swap = λ i j hi hj. (every_pair i j hi hj).swap;
        group = associates apart;
      }
