-- The bits of a number: bit j of `a | b` is the larger one of theirs, bit j of `a ^ b` tells whether theirs differ, and 2 ^ j has the one bit j.
-- A number other than 0 has a bit where its closing zeros end.
-- Assumes nothing.
use mathlib.Core.Path.{◌≡◌, refl, sym, ap, ◌∙◌}
use mathlib.Core.Logic.{◌≢◌, by_cases}
use Prim.Native.Nat.{ℕ, zero, suc, ◌+◌, ◌-◌, ◌*◌, ◌/◌, ◌%◌, ◌^◌, ◌≤◌, ◌<◌, max}
use native.Mathlib.Omega.{arith}
use native.Mathlib.Nat.{pow-suc, pow-succ', div-one, div-div-eq-div-mul, div-eq_of_lt, mul-mod_left, max-zero, max_comm}
use native.Mathlib.Decide.{ℕ_discrete, dec_lt}
use lib.Arith.{digits_mod}
use lib.Pow.{pow-add, pow-lt, pow_pos, shl-shr}
use lib.Bits.{bit_or, bit_xor, differ, or_shr, xor_step, xor_shr, or_add_and, xor_add_and, and_le_l, and_le_r}
use lib.Count.{count_trailing_zeros, trailing_le, under}
use Rattle.runs.proofs.Bits.{below_two, or_odd}
use Rattle.reach.specs.Marking.{bit, Marked}

differ_digit : (x y : ℕ) → x < 2 → y < 2 → differ x y < 2
differ_digit zero y h l = l
differ_digit (suc x) zero h l = h
differ_digit (suc zero) (suc y) h l = omega arith
differ_digit (suc (suc x)) (suc y) h l = absurd (omega arith)

pub or_bit : (a b j : ℕ) → bit (bit_or a b) j ≡ max (bit a j) (bit b j)
or_bit a b j = ap (λ (z : ℕ). z % 2) (or_shr a b j) ∙ or_odd (a / 2 ^ j) (b / 2 ^ j)

pub xor_bit : (a b j : ℕ) → bit (bit_xor a b) j ≡ differ (bit a j) (bit b j)
xor_bit a b j =
    let x = a / 2 ^ j in
    let y = b / 2 ^ j in
    ap (λ (z : ℕ). z % 2) (xor_shr a b j ∙ xor_step x y)
    ∙ digits_mod (bit_xor (x / 2) (y / 2)) (differ_digit (x % 2) (y % 2) (below_two x) (below_two y))

pub no_bit : (j : ℕ) → bit 0 j ≡ 0
no_bit j = ap (λ (z : ℕ). z % 2) (div-eq_of_lt (pow_pos j))

-- a bit is 0 or 1
zero_or_one : (a j : ℕ) → bit a j ≢ 1 → bit a j ≡ 0
zero_or_one a j d = omega (arith, below_two (a / 2 ^ j))

-- 2 ^ j has the bit j, and no other
pub own_bit : (j : ℕ) → Marked (2 ^ j) j
own_bit j = ap (λ (z : ℕ). z % 2) (ap (λ (z : ℕ). z / 2 ^ j) (sym (one_times j)) ∙ shl-shr 1 j)
  where
    one_times : (j : ℕ) → 1 * 2 ^ j ≡ 2 ^ j
    one_times j = omega arith

even_power : (d : ℕ) → 0 < d → 2 ^ d % 2 ≡ 0
even_power zero h = absurd (omega arith)
even_power (suc d) h = ap (λ (z : ℕ). z % 2) (pow-suc 2 d) ∙ mul-mod_left (2 ^ d) 2

pub other_bit : (j k : ℕ) → k ≢ j → bit (2 ^ j) k ≡ 0
other_bit j k d =
    by_cases (dec_lt j k) (λ h. ap (λ (z : ℕ). z % 2) (div-eq_of_lt (pow-lt h)))
    (λ n.
    let e : j ≡ (j - k) + k = omega arith in
    ap (λ (z : ℕ). z % 2) (ap (λ (z : ℕ). 2 ^ z / 2 ^ k) e ∙ ap (λ (z : ℕ). z / 2 ^ k) (pow-add 2 (j - k) k) ∙ shl-shr (2 ^ (j - k)) k)
    ∙ even_power (j - k) (omega arith))

-- `a | b`
max_left : (x y : ℕ) → x ≡ 1 → y < 2 → max x y ≡ 1
max_left zero y e h = absurd (omega arith)
max_left (suc zero) zero e h = refl
max_left (suc zero) (suc zero) e h = refl
max_left (suc zero) (suc (suc y)) e h = absurd (omega arith)
max_left (suc (suc x)) y e h = absurd (omega arith)

module _ (a b : ℕ) where
  pub or_left : (j : ℕ) → Marked a j → Marked (bit_or a b) j
  or_left j e = or_bit a b j ∙ max_left (bit a j) (bit b j) e (below_two (b / 2 ^ j))

  pub or_right : (j : ℕ) → Marked b j → Marked (bit_or a b) j
  or_right j e = or_bit a b j ∙ max_comm (bit a j) (bit b j) ∙ max_left (bit b j) (bit a j) e (below_two (a / 2 ^ j))

  pub or_same : (j : ℕ) → bit b j ≡ 0 → bit (bit_or a b) j ≡ bit a j
  or_same j e = or_bit a b j ∙ ap (max (bit a j)) e ∙ max-zero (bit a j)

  -- what is in `a | b` is in one of the two
  pub or_either : {A : Type 0} (j : ℕ) → Marked (bit_or a b) j → (Marked a j → A) → (Marked b j → A) → A
  or_either j e l r = by_cases (ℕ_discrete (bit b j) 1) r (λ d. l (sym (or_same j (zero_or_one b j d)) ∙ e))

  pub or_grows : a ≤ bit_or a b
  or_grows = omega (arith, or_add_and a b, and_le_r a b)

  -- `a ^ b`
  pub xor_some : b ≢ a → 0 < bit_xor a b
  xor_some d = by_cases (ℕ_discrete (bit_xor a b) 0) (λ e. absurd (d (omega (arith, xor_add_and a b, and_le_l a b, and_le_r a b)))) (λ n. omega arith)

  -- what is in `a ^ b` is in a alone, where b has nothing that a has not
  pub xor_left : (j : ℕ) → (Marked b j → Marked a j) → Marked (bit_xor a b) j → Marked a j × (Marked b j → ⊥)
  xor_left j f e = differ_left (bit a j) (bit b j) (below_two (a / 2 ^ j)) (below_two (b / 2 ^ j)) f (sym (xor_bit a b j) ∙ e)
    where
      differ_left : (x y : ℕ) → x < 2 → y < 2 → (y ≡ 1 → x ≡ 1) → differ x y ≡ 1 → (x ≡ 1) × (y ≡ 1 → ⊥)
      differ_left zero y h l f e = absurd (let z = f e in omega arith)
      differ_left (suc x) zero h l f e = (e, λ z. omega arith)
      differ_left (suc x) (suc y) h l f e = absurd (let z : x ≡ 0 = omega arith in let w : y ≡ 0 = omega arith in omega (arith, rw (z, w) at e))

-- the lowest bit that is set
lowest_set : (d q : ℕ) → 0 < q → q < 2 ^ d → q / 2 ^ count_trailing_zeros d q % 2 ≡ 1
unfolding count_trailing_zeros
lowest_set zero q h k = absurd (omega arith)
lowest_set (suc d) q h k = go (q % 2) refl (λ e. lowest_set d (q / 2) (omega arith) (half q d k))
  where
    half : (q d : ℕ) → q < 2 ^ suc d → q / 2 < 2 ^ d
    half q d k = omega (arith, pow-suc 2 d)

    go : (r : ℕ) → q % 2 ≡ r → (q % 2 ≡ 0 → q / 2 / 2 ^ count_trailing_zeros d (q / 2) % 2 ≡ 1) → q / 2 ^ under r (count_trailing_zeros d (q / 2)) % 2 ≡ 1
    go zero e next =
        let t = count_trailing_zeros d (q / 2) in
        ap (λ (x : ℕ). x % 2) (ap (λ (x : ℕ). q / x) (pow-succ' 2 t) ∙ sym (div-div-eq-div-mul q 2 (2 ^ t))) ∙ next e
    go (suc r) e next = ap (λ (x : ℕ). x % 2) (div-one q) ∙ omega arith

lowest_below : (d q : ℕ) → 0 < q → q < 2 ^ d → count_trailing_zeros d q < d
lowest_below d q h k =
    by_cases (dec_lt (count_trailing_zeros d q) d) (λ l. l)
    (λ n.
    let e : count_trailing_zeros d q ≡ d = omega (arith, trailing_le d q) in
    let z = ap (λ (t : ℕ). q / 2 ^ t % 2) (sym e) ∙ lowest_set d q h k in
    absurd (omega (arith, z, ap (λ (x : ℕ). x % 2) (div-eq_of_lt k))))

pub lowest : (d q : ℕ) → 0 < q → q < 2 ^ d → (count_trailing_zeros d q < d) × Marked q (count_trailing_zeros d q)
lowest d q h k = (lowest_below d q h k, lowest_set d q h k)
