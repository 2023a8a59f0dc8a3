-- The look at all facts at once: where the bits gathered have no highest bit of a byte, no fact has one, so that each of its bytes is below
-- the limit that its tag gives it, and the fact fits.
-- Assumes nothing.
use mathlib.Core.Path.{◌≡◌, refl, sym, ap, ap₂, ◌∙◌}
use mathlib.Core.Logic.{by_cases}
use mathlib.Core.Bool.{true, false, ◌&&◌, cond}
use mathlib.Core.List.{List, []}
use Prim.Native.Nat.{ℕ, zero, suc, ◌+◌, ◌-◌, ◌*◌, ◌/◌, ◌%◌, ◌^◌, ◌≤◌, ◌<◌, min, max}
use native.Mathlib.Omega.{arith}
use native.Mathlib.Decide.{ℕ_discrete, dec_lt}
use native.Mathlib.Nat.{not-suc-le-zero}
use lib.Arith.{bin_ind}
use lib.Bits.{bit_and, bit_or, and_step, or_step, and_shr, or_shr, and_block, and_self, and_le_l, or_add_and, or_disjoint, or_zero_r}
use lib.Dec.{eqb, ltb}
use borrow.Author.Count.{below_none, below_more}
use borrow.Author.Tests.{eq-eqb, ne_eqb, lt-ltb}
use Rattle.std.specs.Prelude.{Ok, length, get_or, take, drop}
use Rattle.std.specs.Simd.{first_chunks}
use Rattle.std.proofs.lemmas.List.{take_all, get_or-take, get_or-drop, drop-drop, length-drop}
use Rattle.runs.proofs.Loops.{or_none}
use Rattle.runs.proofs.Bits.{and_odd, or_odd}
use Rattle.packets.specs.Packet.{byte, joints, fact_at, fact_count}
use Rattle.screening.specs.Screening.{fact_fits, first_bad_fact}
use Rattle.screening.specs.Whole.{Whole}
use Rattle.screening.specs.Words.{four_bytes, high_bits, limits_for, gathered, Word, Limits, Clear}
use Rattle.screening.proofs.Converse.{both_true, all_fit_from}

-- `&` of an `|` is the `|` of the two `&`
min_max : (a b c : ℕ) → min (max a b) c ≡ max (min a c) (min b c)
min_max a b c = omega arith

and_or : (a b c : ℕ) → bit_and (bit_or a b) c ≡ bit_or (bit_and a c) (bit_and b c)
and_or =
    bin_ind (λ (a : ℕ). (b c : ℕ) → bit_and (bit_or a b) c ≡ bit_or (bit_and a c) (bit_and b c)) (λ b c. refl)
    (λ a ih b c.
    and_step (bit_or a b) c
    ∙ ap₂ (λ (x y : ℕ). bit_and x (c / 2) * 2 + min y (c % 2)) (or_shr a b 1) (or_odd a b)
    ∙ ap₂ (λ (x y : ℕ). x * 2 + y) (ih (b / 2) (c / 2)) (min_max (a % 2) (b % 2) (c % 2))
    ∙ sym
    (or_step (bit_and a c) (bit_and b c)
    ∙ ap₂ (λ (x y : ℕ). x * 2 + y) (ap₂ bit_or (and_shr a c 1) (and_shr b c 1)) (ap₂ max (and_odd a c) (and_odd b c))))

pub none_of_two : (x y h : ℕ) → bit_and (bit_or x y) h ≡ 0 → (bit_and x h ≡ 0) × (bit_and y h ≡ 0)
none_of_two x y h e = or_none (bit_and x h) (bit_and y h) (sym (and_or x y h) ∙ e)

-- a byte without its highest bit; and four of them
no_high : (r : ℕ) → r < 256 → bit_and r 128 ≡ 0 → r < 128
no_high r h e = by_cases (dec_lt r 128) (λ l. l) (λ d. high (r - 128) (omega arith) (let q : r ≡ 128 + (r - 128) = omega arith in rw q at e))
  where
    high : (s : ℕ) → s < 128 → bit_and (128 + s) 128 ≡ 0 → r < 128
    high s b z =
        let q : 128 + s ≡ 1 * 2 ^ 7 + s = omega arith in
        let c = sym (and_block 7 1 1 s 0 b (omega arith)) ∙ rw q at z in
        absurd (omega (arith, c, and_self 1))

split : (q r b s : ℕ) → r < 256 → s < 256 → bit_and (q * 256 + r) (b * 256 + s) ≡ 0 → (bit_and q b ≡ 0) × (bit_and r s ≡ 0)
split q r b s hr hs e = let c = sym (and_block 8 q b r s hr hs) ∙ e in (omega (arith, c), omega (arith, c))

four_low : (t a x y : ℕ) → t < 256 → a < 256 → x < 256 → y < 256 → bit_and (four_bytes t a x y) high_bits ≡ 0 →
    (t < 128) × (a < 128) × (x < 128) × (y < 128)
four_low t a x y ht ha hx hy e =
    let w : four_bytes t a x y ≡ ((y * 256 + x) * 256 + a) * 256 + t = omega arith in
    let one = split ((y * 256 + x) * 256 + a) t 8421504 128 ht (omega arith) (rw w at e) in
    let two = split (y * 256 + x) a 32896 128 ha (omega arith) one.0 in
    let three = split y x 128 128 hx (omega arith) two.0 in
    (no_high t ht one.1, no_high a ha two.1, no_high x hx three.1, no_high y hy three.0)

-- the limits for each of the three tags, for any other, and that none is above 128
module _ (t kind same link : ℕ) where
  for_kind : t ≡ 1 → limits_for t kind same link ≡ kind
  for_kind e = rw (eq-eqb t 1 e, ne_eqb t 2 (λ d. omega arith), ne_eqb t 3 (λ d. omega arith)) (or_zero_r (bit_or kind 0) ∙ or_zero_r kind)

  for_same : t ≡ 2 → limits_for t kind same link ≡ same
  for_same e = rw (ne_eqb t 1 (λ d. omega arith), eq-eqb t 2 e, ne_eqb t 3 (λ d. omega arith)) (or_zero_r same)

  for_link : t ≡ 3 → limits_for t kind same link ≡ link
  for_link e = rw (ne_eqb t 1 (λ d. omega arith), ne_eqb t 2 (λ d. omega arith), eq-eqb t 3 e)

  for_other : (t ≡ 1 → ⊥) → (t ≡ 2 → ⊥) → (t ≡ 3 → ⊥) → limits_for t kind same link ≡ 0
  for_other d e f = rw (ne_eqb t 1 d, ne_eqb t 2 e, ne_eqb t 3 f)

  pub taken_off : (word : ℕ) → Limits kind same link → limits_for t kind same link ≤ bit_or word high_bits
  taken_off word l =
      let set : high_bits ≤ bit_or word high_bits = omega (arith, or_add_and word high_bits, and_le_l word high_bits) in
      by_cases (ℕ_discrete t 1) (λ e. omega (arith, for_kind e, l.kinds))
      (λ no_1. by_cases (ℕ_discrete t 2) (λ e. omega (arith, for_same e, l.sames))
      (λ no_2. by_cases (ℕ_discrete t 3) (λ e. omega (arith, for_link e, l.links))
      (λ no_3. omega (arith, for_other no_1 no_2 no_3))))

-- four bytes without their highest bits: what is left of them when limits are taken off
module _ (t a x y : ℕ) (ht : t < 128) (ha : a < 128) (hx : x < 128) (hy : y < 128) (bare : bit_and (four_bytes t a x y) high_bits ≡ 0) where
  set : bit_or (four_bytes t a x y) high_bits ≡ four_bytes t a x y + high_bits
  set = or_disjoint (four_bytes t a x y) high_bits bare

  below_limits : (A X Y : ℕ) → A ≤ 128 → X ≤ 128 → Y ≤ 128 →
      bit_and (bit_or (four_bytes t a x y) high_bits - four_bytes 128 A X Y) high_bits ≡ 0 → (a < A) × (x < X) × (y < Y)
  below_limits A X Y h_a h_x h_y e =
      let w : bit_or (four_bytes t a x y) high_bits - four_bytes 128 A X Y ≡ four_bytes t (a + (128 - A)) (x + (128 - X)) (y + (128 - Y)) = omega (arith, set) in
      let low =
      four_low t (a + (128 - A)) (x + (128 - X)) (y + (128 - Y)) (omega arith) (omega arith) (omega arith) (omega arith) (rw w at e) in
      (omega (arith, low.1), omega (arith, low.2), omega (arith, low.3))

  no_tag : bit_and (bit_or (four_bytes t a x y) high_bits - 0) high_bits ≡ 0 → ⊥
  no_tag e =
      let w : bit_or (four_bytes t a x y) high_bits - 0 ≡ four_bytes (t + 128) (a + 128) (x + 128) (y + 128) = omega (arith, set) in
      let low = four_low (t + 128) (a + 128) (x + 128) (y + 128) (omega arith) (omega arith) (omega arith) (omega arith) (rw w at e) in
      omega (arith, low.0)

-- for at most 128 kinds and joints, what the definition asks of a fact of the tag t
module _
    (n j t a x y : ℕ) (few_kinds : n ≤ 128) (few_joints : j ≤ 128) (ht : t < 128) (ha : a < 128) (hx : x < 128) (hy : y < 128)
    (bare : bit_and (four_bytes t a x y) high_bits ≡ 0) where
  abbrev limits : ℕ
  limits = limits_for t (four_bytes 128 j n 1) (four_bytes 128 j j 1) (four_bytes 128 j 16 j)

  tagged :
      bit_and (bit_or (four_bytes t a x y) high_bits - limits) high_bits ≡ 0 →
      cond (eqb t 1) (ltb a j && ltb x n && eqb y 0)
      (cond (eqb t 2) (ltb a j && ltb x j && eqb y 0)
      (cond (eqb t 3) (ltb a j && ltb x 16 && ltb y j)
      false)) ≡ true
  tagged e =
      by_cases (ℕ_discrete t 1)
      (λ is_1.
      let b = within n 1 few_kinds (omega arith) (for_kind t _ _ _ is_1) in
      rw (eq-eqb t 1 is_1) (both_true _ _ (both_true _ _ (lt-ltb a j b.0) (lt-ltb x n b.1)) (eq-eqb y 0 (omega (arith, b.2)))))
      (λ no_1. by_cases (ℕ_discrete t 2)
      (λ is_2.
      let b = within j 1 few_joints (omega arith) (for_same t _ _ _ is_2) in
      rw (ne_eqb t 1 no_1, eq-eqb t 2 is_2)
      (both_true _ _ (both_true _ _ (lt-ltb a j b.0) (lt-ltb x j b.1)) (eq-eqb y 0 (omega (arith, b.2)))))
      (λ no_2. by_cases (ℕ_discrete t 3)
      (λ is_3.
      let b = within 16 j (omega arith) few_joints (for_link t _ _ _ is_3) in
      rw (ne_eqb t 1 no_1, ne_eqb t 2 no_2, eq-eqb t 3 is_3)
      (both_true _ _ (both_true _ _ (lt-ltb a j b.0) (lt-ltb x 16 b.1)) (lt-ltb y j b.2)))
      (λ no_3. absurd (no_tag t a x y ht ha hx hy bare (rw (for_other t _ _ _ no_1 no_2 no_3) at e)))))
    where
      within : (X Y : ℕ) → X ≤ 128 → Y ≤ 128 → limits ≡ four_bytes 128 j X Y → (a < j) × (x < X) × (y < Y)
      within X Y h_x h_y l = below_limits t a x y ht ha hx hy bare j X Y few_joints h_x h_y (rw l at e)

-- a fact without a highest bit fits
module _ (n : ℕ) (p : List ℕ) (few_kinds : n ≤ 128) (few_joints : joints p ≤ 128) where
  abbrev kind : ℕ
  kind = four_bytes 128 (joints p) n 1

  abbrev same : ℕ
  same = four_bytes 128 (joints p) (joints p) 1

  abbrev link : ℕ
  link = four_bytes 128 (joints p) 16 (joints p)

  clear_fits : (at : ℕ) → Clear kind same link p at → fact_fits n p at ≡ true
  unfolding fact_fits
  clear_fits at c =
      let t = byte p at in
      let a = byte p (at + 1) in
      let x = byte p (at + 2) in
      let y = byte p (at + 3) in
      let w = c.bytes in
      let tag : four_bytes t a x y % 256 ≡ t = omega (arith, w.first) in
      let left = bit_or (four_bytes t a x y) high_bits - limits_for t kind same link in
      let two = none_of_two (four_bytes t a x y) left high_bits (rw (w.is, tag) at c.none) in
      let low = four_low t a x y w.first w.second w.third w.fourth two.0 in
      tagged n (joints p) t a x y few_kinds few_joints low.0 low.1 low.2 low.3 two.0 two.1

  pub all_clear :
      {j k s l : ℕ} → j ≡ joints p → k ≡ four_bytes 128 j n 1 → s ≡ four_bytes 128 j j 1 → l ≡ four_bytes 128 j 16 j →
      ((i : ℕ) → i < fact_count p → Clear k s l p (fact_at p i)) → first_bad_fact n p ≡ Ok 0
  all_clear e f g h c =
      all_fit_from (fact_fits n p) (fact_at p) 0 (fact_count p)
      (λ i _ m. clear_fits (fact_at p i) (rw (f, g, h, e) at (c i (omega arith))))

-- a loop at i that has gathered the bits of the facts before the i-th in `any`
pub record Gathered (kind same link : ℕ) (p : List ℕ) (i any : ℕ) : Type 0 where
  pub clear : bit_and any high_bits ≡ 0 → (k : ℕ) → k < i → Clear kind same link p (fact_at p k)

module _ {kind same link : ℕ} {p : List ℕ} where
  pub none_gathered : Gathered kind same link p 0 0
  none_gathered = record { clear = λ _. below_none _ }

  pub more_gathered :
      {i any at word r : ℕ} → Gathered kind same link p i any → at ≡ fact_at p i → Word p at word → r ≡ gathered word kind same link →
      Gathered kind same link p (i + 1) (bit_or any r)
  more_gathered {i} {any} {at} {word} {r} l e w g =
      record {
        clear = λ z.
            let two = none_of_two any r high_bits z in
            let here : Clear kind same link p at = record { word = word; bytes = w; none = rw g at two.1 } in
            below_more (λ k. Clear kind same link p (fact_at p k)) i (l.clear two.0) (rw e at here);
      }

-- the facts, four bytes each: the i-th begins where the packet's i-th does
chunk_at : (k i : ℕ) (xs : List ℕ) → i < k → get_or (first_chunks 4 k xs) i [] ≡ take 4 (drop (4 * i) xs)
chunk_at zero i xs h = absurd (not-suc-le-zero h)
chunk_at (suc k) zero xs h = refl
chunk_at (suc k) (suc i) xs h =
    chunk_at k i (drop 4 xs) (omega arith)
    ∙ ap (take 4) (drop-drop (4 * i) 4 xs ∙ ap (λ (j : ℕ). drop j xs) (omega arith))

-- what is left of a list from a place on
pub left_from : (p : List ℕ) (from : ℕ) → take (length p - from) (drop from p) ≡ drop from p
left_from p from = take_all (length p - from) (drop from p) (omega (arith, length-drop from p))

pub facts_at :
    {p : List ℕ} {from : ℕ} → Whole p → from ≡ fact_at p 0 → (i : ℕ) → i < fact_count p →
    get_or (first_chunks 4 (length (drop from p) / 4) (drop from p)) i [] ≡ take 4 (drop (fact_at p i) p)
facts_at {p} {from} w e i h =
    chunk_at (length (drop from p) / 4) i (drop from p) (omega (arith, length-drop from p, w.ends, e))
    ∙ ap (take 4) (drop-drop (4 * i) from p ∙ ap (λ (j : ℕ). drop j p) (omega (arith, e)))

pub word_moved : {f p : List ℕ} {at word : ℕ} → f ≡ take 4 (drop at p) → Word f 0 word → Word p at word
word_moved {f} {p} {at} {word} e w =
    record {
      is = rw (first, moved 1 (omega arith), moved 2 (omega arith), moved 3 (omega arith)) at w.is;
      first = rw first at w.first;
      second = rw (moved 1 (omega arith)) at w.second;
      third = rw (moved 2 (omega arith)) at w.third;
      fourth = rw (moved 3 (omega arith)) at w.fourth;
    }
  where
    moved : (j : ℕ) → j < 4 → byte f j ≡ byte p (at + j)
    moved j h = ap (λ (l : List ℕ). byte l j) e ∙ get_or-take 4 (drop at p) j 0 h ∙ get_or-drop at p j 0

    first : byte f 0 ≡ byte p at
    first = moved 0 (omega arith) ∙ ap (byte p) (omega arith)
