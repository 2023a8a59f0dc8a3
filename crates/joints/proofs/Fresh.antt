-- The session's own bytes as opening writes them, whatever stands behind them: their form, that it is well formed, and that it tells no
-- fact. Its parts are read off as those of any bytes made of their parts.
-- Assumes nothing.
use mathlib.Core.Path.{◌≡◌, refl, sym, ap, ◌∙◌}
use mathlib.Core.Logic.{by_cases, inl}
use mathlib.Core.Bool.{cond}
use mathlib.Core.List.{List, [], ◌∷◌, ◌++◌, map, append_assoc}
use Prim.Native.Nat.{ℕ, zero, suc, ◌+◌, ◌-◌, ◌*◌, ◌<◌, ◌≤◌}
use native.Mathlib.Omega.{arith}
use native.Mathlib.Decide.{dec_lt}
use lib.Dec.{ltb}
use lib.ListN.{length, get_or, drop, replicate, length-append, length-replicate, get_or-replicate, get_or-append}
use lib.Seq.{drop_at, ext_get_or}
use borrow.Author.Tests.{eq-eqb, lt-ltb, le-ltb}
use Rattle.meaning.specs.Picture.{rename}
use Rattle.meaning.specs.Form.{Form, unknown, links_from, facts_at, facts_from, rig_joint, taken_facts, classes}
use Rattle.meaning.specs.Solving.{Smallest, Well}
use Rattle.meaning.proofs.Classes.{classes_all}
use Rattle.runs.proofs.Each.{each_length, each_at}
use Rattle.runs.proofs.Zeros.{zeros_at}
use Rattle.joints.specs.Layout.{session_size, block_form}
use Rattle.joints.specs.Fresh.{own_classes, any_kinds, no_links, fresh_session}
use Rattle.joints.proofs.Parts.{MadeOf, made_of, byte_from, block_ends}

-- the form of v joints of which nothing is known: each a class of its own, with kind 1 and no known link
pub record Blank (v : ℕ) (S : Form) : Type 0 where
  pub class : (j : ℕ) → j < v → S.class j ≡ j
  pub kind : (j : ℕ) → j < v → S.kind j ≡ 1
  pub link : (j l : ℕ) → j < v → l < 16 → S.link j l ≡ unknown
  pub class_rest : (j : ℕ) → v ≤ j → S.class j ≡ 0
  pub kind_rest : (j : ℕ) → v ≤ j → S.kind j ≡ 0
  pub link_rest : (j l : ℕ) → v ≤ j → l < 16 → S.link j l ≡ 0

module _ {v : ℕ} {S : Form} (b : Blank v S) where
  pub blank_well : {n : ℕ} → 2 ≤ n → Well n v S
  blank_well {n} two =
      record {
        class_le = λ j h. omega (arith, b.class j h);
        class_smallest = λ j h. let e : S.class j ≡ j = b.class j h in ap S.class e;
        kind_some = λ j s z. omega (arith, b.kind j s.0);
        kind_in = λ j. by_cases (dec_lt j v) (λ h. omega (arith, b.kind j h)) (λ d. omega (arith, b.kind_rest j (omega arith)));
        link_smallest = λ j l s h. inl (b.link j l s.0 h);
        kind_rest = λ j d. b.kind_rest j (behind j d);
        link_rest = λ j l d h. b.link_rest j l (behind j d) h;
        class_rest = b.class_rest;
      }
    where
      behind : (j : ℕ) → (Smallest v S j → ⊥) → v ≤ j
      behind j d = by_cases (dec_lt j v) (λ h. absurd (d (h, b.class j h))) (λ f. omega arith)

  no_links_lem : (j l count : ℕ) → j < v → l + count ≤ 16 → links_from S j l count ≡ []
  unfolding links_from
  no_links_lem j l zero h g = refl
  no_links_lem j l (suc count) h g = rw (eq-eqb _ _ (b.link j l h (omega arith))) (no_links_lem j (suc l) count h (omega arith))

  no_facts_at : (j : ℕ) → j < v → facts_at S j ≡ []
  unfolding facts_at
  no_facts_at j h = rw (eq-eqb _ _ (b.class j h), eq-eqb _ _ (b.kind j h)) (no_links_lem j 0 16 h (omega arith))

  no_facts_from : (j count : ℕ) → j + count ≤ v → facts_from S j count ≡ []
  unfolding facts_from
  no_facts_from j zero h = refl
  no_facts_from j (suc count) h = rw (no_facts_at j (omega arith), no_facts_from (suc j) count (omega arith))

  pub blank_facts : taken_facts v S ≡ []
  blank_facts = ap (map (rename rig_joint)) (no_facts_from 0 v (omega arith))

  pub blank_classes : classes S v ≡ v
  blank_classes = classes_all S v (λ j h. b.class j h)

-- a list that zeros follow
pub zeros_behind : (xs : List ℕ) (m i : ℕ) → length xs ≤ i → get_or (xs ++ replicate m 0) i 0 ≡ 0
zeros_behind xs m i h =
    byte_from (length xs) (xs ++ replicate m 0) i h
    ∙ ap (λ (d : List ℕ). get_or d (i - length xs) 0) (drop_at xs (replicate m 0) (length xs) refl)
    ∙ zeros_at m (i - length xs)

-- the choice that a fresh block makes at each joint
module _ (v j a : ℕ) where
  below : j < v → cond (ltb j v) a 0 ≡ a
  below h = rw (lt-ltb j v h)

  behind : v ≤ j → cond (ltb j v) a 0 ≡ 0
  behind h = rw (le-ltb j v h)

-- the class number of a joint, and of a number that is none
pub own_class : (v j : ℕ) → j < 64 → j < v → j ≡ get_or (own_classes v) j 0
own_class v j h g = sym (each_at (λ k. cond (ltb k v) k 0) 64 j h ∙ below v j j g)

pub no_class : (v j : ℕ) → j < 64 → v ≤ j → 0 ≡ get_or (own_classes v) j 0
no_class v j h g = sym (each_at (λ k. cond (ltb k v) k 0) 64 j h ∙ behind v j j g)

-- the kinds, written as ones and then zeros
pub ones_then_zeros : (v : ℕ) → v ≤ 64 → replicate v 1 ++ replicate (64 - v) 0 ≡ any_kinds v
ones_then_zeros v high =
    ext_get_or 0 (replicate v 1 ++ replicate (64 - v) 0) (any_kinds v) (size ∙ sym (each_length _ 0 64))
    (λ j h. same j (omega (arith, size)))
  where
    size : length {A = ℕ} (replicate v 1 ++ replicate (64 - v) 0) ≡ 64
    size = simp (length-append, length-replicate) (omega arith)

    same : (j : ℕ) → j < 64 → get_or (replicate v 1 ++ replicate (64 - v) 0) j 0 ≡ get_or (any_kinds v) j 0
    same j h =
        by_cases (dec_lt j v)
        (λ g.
        get_or-append (replicate v 1) (replicate (64 - v) 0) 0 j (simp length-replicate (omega arith)) ∙ get_or-replicate v j 1 0 g
        ∙ sym (each_at (λ k. cond (ltb k v) 1 0) 64 j h ∙ below v j 1 g))
        (λ d.
        zeros_behind (replicate v 1) (64 - v) j (simp length-replicate (omega arith))
        ∙ sym (each_at (λ k. cond (ltb k v) 1 0) 64 j h ∙ behind v j 1 (omega arith)))

rows_length : (v : ℕ) → v ≤ 64 → length (no_links v) ≡ 1024
rows_length v high = simp (length-append, length-replicate) (omega arith)

pub session_length : (n v : ℕ) → v ≤ 64 → length (fresh_session n v) ≡ session_size
session_length n v high =
    let classes : length (own_classes v) ≡ 64 = each_length _ 0 64 in
    let kinds : length (any_kinds v) ≡ 64 = each_length _ 0 64 in
    let tail = length-append (any_kinds v) (no_links v) in
    let all = length-append (own_classes v) (any_kinds v ++ no_links v) in
    omega (arith, rows_length v high)

module _ (n v : ℕ) (high : v ≤ 64) (rest : List ℕ) where
  -- the bytes with the rest behind them
  abbrev whole : List ℕ
  whole = fresh_session n v ++ rest

  fresh_parts : MadeOf whole (n ∷ v ∷ []) (own_classes v) (any_kinds v) (no_links v) rest
  fresh_parts =
      rw in_order
      (made_of (n ∷ v ∷ []) (own_classes v) (any_kinds v) (no_links v) rest refl (each_length _ 0 64) (each_length _ 0 64) (rows_length v high))
    where
      in_order : fresh_session n v ++ rest ≡ n ∷ v ∷ (own_classes v ++ (any_kinds v ++ (no_links v ++ rest)))
      in_order = simp append_assoc

  pub fresh_size : length whole ≡ session_size + length rest
  fresh_size = fresh_parts.size

  pub fresh_behind : drop session_size whole ≡ rest
  fresh_behind = fresh_parts.behind

  class_at : (j : ℕ) → j < 64 → (block_form whole).class j ≡ cond (ltb j v) j 0
  class_at j h = rw fresh_parts.classes (each_at (λ j. cond (ltb j v) j 0) 64 j h)

  kind_at : (j : ℕ) → j < 64 → (block_form whole).kind j ≡ cond (ltb j v) 1 0
  kind_at j h = rw fresh_parts.kinds (each_at (λ j. cond (ltb j v) 1 0) 64 j h)

  pub fresh_blank : Blank v (block_form whole)
  fresh_blank =
      record {
        class = λ j h. class_at j (omega arith) ∙ below v j j h;
        kind = λ j h. kind_at j (omega arith) ∙ below v j 1 h;
        link = λ j l h g.
            rw fresh_parts.rows
            (get_or-append (replicate (16 * v) unknown) (replicate (1024 - 16 * v) 0) 0 (j * 16 + l) (simp length-replicate (omega arith))
            ∙ get_or-replicate (16 * v) (j * 16 + l) unknown 0 (omega arith));
        class_rest = λ j h.
            by_cases (dec_lt j 64) (λ g. class_at j g ∙ behind v j j h) (λ d. (block_ends whole).class j (omega arith));
        kind_rest = λ j h.
            by_cases (dec_lt j 64) (λ g. kind_at j g ∙ behind v j 1 h) (λ d. (block_ends whole).kind j (omega arith));
        link_rest = λ j l h g.
            rw fresh_parts.rows
            (zeros_behind (replicate (16 * v) unknown) (1024 - 16 * v) (j * 16 + l) (simp length-replicate (omega arith)));
      }
