-- The parts of the session's own bytes: what bytes made of these parts hold, what stays when another form is put into them, and that they
-- are fixed by n, V and the form: byte by byte, each byte found in its part.
-- Assumes nothing.
use mathlib.Core.Path.{◌≡◌, sym, ap, ◌∙◌}
use mathlib.Core.Logic.{by_cases}
use mathlib.Core.List.{List, ◌++◌}
use Prim.Native.Nat.{ℕ, ◌+◌, ◌-◌, ◌*◌, ◌/◌, ◌%◌, ◌<◌, ◌≤◌}
use native.Mathlib.Omega.{arith}
use native.Mathlib.Decide.{dec_lt}
use native.Mathlib.Nat.{div-add-mod', mod-lt}
use lib.ListN.{length, get_or, take, drop, length-append, length-take, length-drop, get_or-append, get_or-eq_default}
use lib.Seq.{length-take-le, take_at, drop_at, drop-drop, get_or-take, get_or-drop}
use Rattle.meaning.specs.Form.{Form, list_form}
use Rattle.meaning.specs.Solving.{Smallest, Well}
use Rattle.meaning.proofs.SameForm.{SameForm}
use Rattle.joints.specs.Layout.{session_size, kinds_of, joints_of, classes_of, joint_kinds_of, rows_of, block_form}
use Rattle.joints.specs.Storing.{with_form}

-- byte i of a part of a block is the byte that stands there in the block
pub part_at : (start size : ℕ) (b : List ℕ) (i : ℕ) → i < size → get_or (take size (drop start b)) i 0 ≡ get_or b (start + i) 0
part_at start size b i h = get_or-take size (drop start b) i 0 h ∙ get_or-drop start b i 0

-- a byte from m on, counted from there; and in the part of some size that begins there
pub byte_from : (m : ℕ) (b : List ℕ) (i : ℕ) → m ≤ i → get_or b i 0 ≡ get_or (drop m b) (i - m) 0
byte_from m b i h = let e : m + (i - m) ≡ i = omega arith in sym (get_or-drop m b (i - m) 0 ∙ ap (λ (k : ℕ). get_or b k 0) e)

pub byte_in : (m size : ℕ) (b : List ℕ) (i : ℕ) → m ≤ i → i < m + size → get_or b i 0 ≡ get_or (take size (drop m b)) (i - m) 0
byte_in m size b i h g = byte_from m b i h ∙ sym (get_or-take size (drop m b) (i - m) 0 (omega arith))

-- class, kind and links are 0 from joint 64 on
pub record Ends (S : Form) : Type 0 where
  pub class : (j : ℕ) → 64 ≤ j → S.class j ≡ 0
  pub kind : (j : ℕ) → 64 ≤ j → S.kind j ≡ 0
  pub link : (j l : ℕ) → 64 ≤ j → S.link j l ≡ 0

-- beyond its end a list of bytes reads 0
cut : (m : ℕ) (xs : List ℕ) (i : ℕ) → m ≤ i → get_or (take m xs) i 0 ≡ 0
cut m xs i h = get_or-eq_default (take m xs) 0 (omega (arith, length-take m xs))

pub block_ends : (b : List ℕ) → Ends (block_form b)
block_ends b =
    record {
      class = λ j h. cut 64 (drop 2 b) j h;
      kind = λ j h. cut 64 (drop 66 b) j h;
      link = λ j l h. cut 1024 (drop 130 b) (j * 16 + l) (omega arith);
    }

-- b has the bytes p in front, then the classes c, the kinds k, the rows r, and then d
pub record MadeOf (b p c k r d : List ℕ) : Type 0 where
  pub size : length b ≡ session_size + length d
  pub front : (i : ℕ) → i < 2 → get_or b i 0 ≡ get_or p i 0
  pub classes : classes_of b ≡ c
  pub kinds : joint_kinds_of b ≡ k
  pub rows : rows_of b ≡ r
  pub behind : drop session_size b ≡ d

pub made_of : (p c k r d : List ℕ) → length p ≡ 2 → length c ≡ 64 → length k ≡ 64 → length r ≡ 1024 →
    MadeOf (p ++ (c ++ (k ++ (r ++ d)))) p c k r d
made_of p c k r d lp lc lk lr =
    record {
      size = simp length-append (omega arith);
      front = λ i h. get_or-append p (c ++ (k ++ (r ++ d))) 0 i (omega arith);
      classes = ap (take 64) from_2 ∙ take_at c (k ++ (r ++ d)) 64 lc;
      kinds = ap (take 64) from_66 ∙ take_at k (r ++ d) 64 lk;
      rows = ap (take 1024) from_130 ∙ take_at r d 1024 lr;
      behind = sym (drop-drop 1024 130 whole) ∙ ap (drop 1024) from_130 ∙ drop_at r d 1024 lr;
    }
  where
    whole : List ℕ
    whole = p ++ (c ++ (k ++ (r ++ d)))

    from_2 : drop 2 whole ≡ c ++ (k ++ (r ++ d))
    from_2 = drop_at p (c ++ (k ++ (r ++ d))) 2 lp

    from_66 : drop 66 whole ≡ k ++ (r ++ d)
    from_66 = sym (drop-drop 64 2 whole) ∙ ap (drop 64) from_2 ∙ drop_at c (k ++ (r ++ d)) 64 lc

    from_130 : drop 130 whole ≡ r ++ d
    from_130 = sym (drop-drop 64 66 whole) ∙ ap (drop 64) from_66 ∙ drop_at k (r ++ d) 64 lk

-- another form put into a block
module _
    (b c k r : List ℕ) (size : session_size ≤ length b) (lc : 64 ≤ length c) (lk : 64 ≤ length k) (lr : 1024 ≤ length r) where
  with_parts : MadeOf (with_form b c k r) (take 2 b) (take 64 c) (take 64 k) (take 1024 r) (drop session_size b)
  with_parts =
      made_of (take 2 b) (take 64 c) (take 64 k) (take 1024 r) (drop session_size b)
      (length-take-le 2 b (omega arith)) (length-take-le 64 c lc) (length-take-le 64 k lk) (length-take-le 1024 r lr)

  pub with_size : length (with_form b c k r) ≡ length b
  with_size = omega (arith, with_parts.size, length-drop session_size b)

  pub with_front : (i : ℕ) → i < 2 → get_or (with_form b c k r) i 0 ≡ get_or b i 0
  with_front i h = with_parts.front i h ∙ get_or-take 2 b i 0 h

  pub with_behind : drop session_size (with_form b c k r) ≡ drop session_size b
  with_behind = with_parts.behind

  with_class : (j : ℕ) → j < 64 → (block_form (with_form b c k r)).class j ≡ get_or c j 0
  with_class j h = rw with_parts.classes (get_or-take 64 c j 0 h)

  with_kind : (j : ℕ) → j < 64 → (block_form (with_form b c k r)).kind j ≡ get_or k j 0
  with_kind j h = rw with_parts.kinds (get_or-take 64 k j 0 h)

  with_link : (j l : ℕ) → j < 64 → l < 16 → (block_form (with_form b c k r)).link j l ≡ get_or r (j * 16 + l) 0
  with_link j l h g = rw with_parts.rows (get_or-take 1024 r (j * 16 + l) 0 (omega arith))

  -- a well-formed form of at most 64 joints is put in whole
  module _ {n v : ℕ} (high : v ≤ 64) (well : Well n v (list_form c k r)) where
    none_behind : (j : ℕ) → 64 ≤ j → Smallest v (list_form c k r) j → ⊥
    none_behind j h s = omega (arith, s.0)

    pub with_form_lem : SameForm (block_form (with_form b c k r)) (list_form c k r)
    with_form_lem =
        record {
          class = λ j.
              by_cases (dec_lt j 64)
              (λ h. with_class j h)
              (λ d. ends.class j (omega arith) ∙ sym (well.class_rest j (omega arith)));
          kind = λ j.
              by_cases (dec_lt j 64)
              (λ h. with_kind j h)
              (λ d. ends.kind j (omega arith) ∙ sym (well.kind_rest j (none_behind j (omega arith))));
          link = λ j l g.
              by_cases (dec_lt j 64)
              (λ h. with_link j l h g)
              (λ d. ends.link j l (omega arith) ∙ sym (well.link_rest j l (none_behind j (omega arith)) g));
        }
      where
        ends : Ends (block_form (with_form b c k r))
        ends = block_ends (with_form b c k r)

-- bytes with the same n, V and form are the same, up to the end of the session's own
module _
    (b b' : List ℕ) (n : kinds_of b ≡ kinds_of b') (v : joints_of b ≡ joints_of b') (e : SameForm (block_form b) (block_form b')) where
  front_same : (i : ℕ) → i < 2 → get_or b i 0 ≡ get_or b' i 0
  front_same i h =
      by_cases (dec_lt i 1)
      (λ d. let q : i ≡ 0 = omega arith in rw q n)
      (λ d. let q : i ≡ 1 = omega arith in rw q v)

  part_same : (m size : ℕ) → ((i : ℕ) → get_or (take size (drop m b)) i 0 ≡ get_or (take size (drop m b')) i 0) →
      (i : ℕ) → m ≤ i → i < m + size → get_or b i 0 ≡ get_or b' i 0
  part_same m size f i h k = byte_in m size b i h k ∙ f (i - m) ∙ sym (byte_in m size b' i h k)

  rows_same : (i : ℕ) → get_or (rows_of b) i 0 ≡ get_or (rows_of b') i 0
  rows_same i =
      let q : i / 16 * 16 + i % 16 ≡ i = div-add-mod' i 16 in
      rw q at (e.link (i / 16) (i % 16) (mod-lt i (omega arith)))

  pub own_same : (i : ℕ) → i < session_size → get_or b i 0 ≡ get_or b' i 0
  own_same i h =
      by_cases (dec_lt i 2) (λ a. front_same i a)
      (λ d2. by_cases (dec_lt i 66) (λ a. part_same 2 64 e.class i (omega arith) a)
      (λ d66. by_cases (dec_lt i 130) (λ a. part_same 66 64 e.kind i (omega arith) a)
      (λ d130. part_same 130 1024 rows_same i (omega arith) h)))
