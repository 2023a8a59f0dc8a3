-- Bytes put one after the other, in straight code and in loops that put a part at each turn: what is written, with what is left to put from
-- here, is what was there with all the bytes. The bytes of a form's facts are taken apart joint by joint and link by link.
-- Assumes nothing.
use mathlib.Core.Path.{◌≡◌, refl, sym, ap, ◌∙◌}
use mathlib.Core.Bool.{Bool, true, false, cond}
use mathlib.Core.List.{List, [], ◌∷◌, ◌++◌, append_assoc, append-nil}
use Prim.Native.Nat.{ℕ, zero, suc, ◌+◌, ◌-◌, ◌*◌, ◌/◌, ◌%◌, ◌<◌, ◌≤◌}
use native.Mathlib.Omega.{arith}
use native.Mathlib.Numerals.{add-one}
use lib.Dec.{eqb}
use lib.ListN.{length, take, drop, length-append, length-take, length-drop, take-append-drop}
use lib.Seq.{drop_at, take-add, drop-drop, length-take-le}
use Rattle.std.proofs.lemmas.Slice.{take-put_mid, drop-put_mid}
use borrow.Rule.Slice.PartMut.{put_mid, same_len_mid}
use borrow.Author.Tests.{eq-eqb, ne_eqb}
use Rattle.meaning.specs.declared.RigJoint.{RigJoint}
use Rattle.meaning.specs.Picture.{Fact, rename}
use Rattle.meaning.specs.Picture.Fact.{has_kind, leads}
use Rattle.meaning.specs.Form.{Form, unknown, links_from, facts_at, facts_from, rig_joint}
use Rattle.packets.specs.FactsPacket.{fact_bytes, all_bytes, facts_packet}
use Rattle.packets.proofs.FactsPacket.{bytes_four}
use Rattle.writing.specs.Putting.{Room, Put, form_bytes, kind_bytes, link_bytes, same_bytes}

-- bytes written over others, in the middle of s
pub written_over : (bytes s ys : List ℕ) (at : ℕ) → at + length bytes ≤ length s → ys ≡ bytes →
    Put bytes at s (put_mid at (at + length bytes - at) s ys) (at + length bytes)
written_over bytes s ys at h e =
    let long : length ys ≡ at + length bytes - at = omega (arith, ap length e) in
    record {
      size = same_len_mid at (at + length bytes - at) s ys (simp (length-take, length-drop) (omega arith));
      ends = refl;
      front = take-put_mid at (at + length bytes - at) s ys (at + length bytes) (omega arith) (omega arith) ∙ ap (λ (l : List ℕ). take at s ++ l) e;
      behind = drop-put_mid at (at + length bytes - at) s ys (at + length bytes) (omega arith) (omega arith) long;
    }

-- all of a list that has bytes in front
pub whole : {bytes s t : List ℕ} {end : ℕ} → Put bytes 0 s t end → t ≡ bytes ++ drop end s
whole {bytes} {s} {t} {end} p =
    sym (take-append-drop end t) ∙ ap (λ (l : List ℕ). l ++ drop end t) p.front ∙ ap (λ (l : List ℕ). bytes ++ l) p.behind

pub none_put : (at : ℕ) (s : List ℕ) → Put [] at s s at
none_put at s = record { size = refl; ends = omega arith; front = sym (append-nil (take at s)); behind = refl }

pub nothing_put : {fs : List (Fact ℕ)} (at : ℕ) (s : List ℕ) → fs ≡ [] → Put (form_bytes fs) at s s at
unfolding all_bytes
nothing_put at s e = rw e (none_put at s)

-- at `at`, with t written so far: what is left to put makes it s up to `from` and then all the bytes
pub record Putting (all : List ℕ) (from : ℕ) (s t : List ℕ) (at : ℕ) (left : List ℕ) : Type 0 where
  pub size : length t ≡ length s
  pub ends : at + length left ≡ from + length all
  pub front : take at t ++ left ≡ take from s ++ all
  pub behind : drop at t ≡ drop at s

pub put_begins : {all left : List ℕ} (from : ℕ) (s : List ℕ) → all ≡ left → Putting all from s s from left
put_begins from s e =
    record {
      size = refl;
      ends = ap (λ (l : List ℕ). from + length l) (sym e);
      front = ap (λ (l : List ℕ). take from s ++ l) (sym e);
      behind = refl;
    }

-- what is the same from `at` on is the same from further on
further : (s t : List ℕ) (at k : ℕ) {end : ℕ} → end ≡ at + k → drop at t ≡ drop at s → drop end t ≡ drop end s
further s t at k e h =
    ap (λ (i : ℕ). drop i t) e ∙ sym (drop-drop k at t) ∙ ap (drop k) h ∙ drop-drop k at s ∙ ap (λ (i : ℕ). drop i s) (sym e)

module _ {all s t left : List ℕ} {from at : ℕ} (p : Putting all from s t at left) where
  -- the next part has room, and is put
  pub put_room : (new more : List ℕ) → left ≡ new ++ more → Room all from s → Room new at t
  put_room new more e r = omega (arith, p.size, p.ends, ap length e, length-append new more)

  pub put_goes_on : {new u : List ℕ} {end : ℕ} (more : List ℕ) → left ≡ new ++ more → Put new at t u end → Putting all from s u end more
  put_goes_on {new} {u} {end} more e q =
      record {
        size = q.size ∙ p.size;
        ends = omega (arith, p.ends, q.ends, ap length e, length-append new more);
        front =
            ap (λ (l : List ℕ). l ++ more) q.front
            ∙ append_assoc (take at t) new more
            ∙ ap (λ (l : List ℕ). take at t ++ l) (sym e)
            ∙ p.front;
        behind = q.behind ∙ further s t at (length new) q.ends p.behind;
      }

  pub put_ends : left ≡ [] → Put all from s t at
  put_ends e =
      record {
        size = p.size;
        ends = omega (arith, p.ends, ap length e);
        front = sym (append-nil (take at t)) ∙ ap (λ (l : List ℕ). take at t ++ l) (sym e) ∙ p.front;
        behind = p.behind;
      }

pub bytes_append : (fs gs : List (Fact ℕ)) → form_bytes (fs ++ gs) ≡ form_bytes fs ++ form_bytes gs
unfolding all_bytes
bytes_append [] gs = refl
bytes_append (f ∷ fs) gs =
    ap (λ (l : List ℕ). fact_bytes (rename rig_joint f) ++ l) (bytes_append fs gs)
    ∙ sym (append_assoc (fact_bytes (rename rig_joint f)) (form_bytes fs) (form_bytes gs))

-- a fact that a test may leave out, and what follows it
maybe_first : (b : Bool) (f : Fact ℕ) (fs : List (Fact ℕ)) → form_bytes (cond b fs (f ∷ fs)) ≡ cond b [] (fact_bytes (rename rig_joint f)) ++ form_bytes fs
unfolding all_bytes
maybe_first true f fs = refl
maybe_first false f fs = refl

-- what a test may leave out, in front of two lists
maybe_before : {A : Type 0} (b : Bool) (x : A) (xs ys : List A) → cond b (xs ++ ys) (x ∷ (xs ++ ys)) ≡ cond b xs (x ∷ xs) ++ ys
maybe_before true x xs ys = refl
maybe_before false x xs ys = refl

-- a list made number by number, of each what a test may leave out: that of the first a numbers, then that of the next b
module _
    {A : Type 0} (made : ℕ → ℕ → List A) (out : ℕ → Bool) (own : ℕ → A) (none : (l : ℕ) → made l 0 ≡ [])
    (next : (l count : ℕ) → made l (suc count) ≡ cond (out l) (made (suc l) count) (own l ∷ made (suc l) count)) where
  pub made_split : (l a b : ℕ) → made l (a + b) ≡ made l a ++ made (l + a) b
  made_split l zero b =
      let s : l ≡ l + 0 = omega arith in
      let e : 0 + b ≡ b = omega arith in
      ap (made l) e ∙ ap (λ (k : ℕ). made k b) s ∙ ap (λ (xs : List A). xs ++ made (l + 0) b) (sym (none l))
  made_split l (suc a) b =
      let e : suc a + b ≡ suc (a + b) = omega arith in
      let s : suc l + a ≡ l + suc a = omega arith in
      let others = made_split (suc l) a b ∙ ap (λ (k : ℕ). made (suc l) a ++ made k b) s in
      ap (made l) e
      ∙ next l (a + b)
      ∙ ap (λ (xs : List A). cond (out l) xs (own l ∷ xs)) others
      ∙ maybe_before (out l) (own l) (made (suc l) a) (made (l + suc a) b)
      ∙ ap (λ (xs : List A). xs ++ made (l + suc a) b) (sym (next l a))

module _ (S : Form) where
  -- what is left at link l of joint j's links below `last`, and at joint j of v
  abbrev pub links_left : ℕ → ℕ → ℕ → List ℕ
  links_left j last l = form_bytes (links_from S j l (last - l))

  abbrev pub joints_left : ℕ → ℕ → List ℕ
  joints_left v j = form_bytes (facts_from S j (v - j))

  -- c is the link that was read
  pub links_step : (j last l : ℕ) {c : ℕ} → l < last → c ≡ S.link j l → links_left j last l ≡ link_bytes j l c ++ links_left j last (l + 1)
  unfolding links_from
  links_step j last l {c} h q =
      let e : last - l ≡ suc (last - (l + 1)) = omega arith in
      rw (e, add-one, q) (maybe_first (eqb (S.link j l) unknown) (leads j l (S.link j l)) (links_from S j (suc l) (last - suc l)))

  pub links_end : {last l : ℕ} (j : ℕ) → last ≤ l → links_left j last l ≡ []
  unfolding links_from all_bytes
  links_end {last} {l} j h = let e : last - l ≡ 0 = omega arith in rw e

  links_split : (j l a b : ℕ) → links_from S j l (a + b) ≡ links_from S j l a ++ links_from S j (l + a) b
  unfolding links_from
  links_split j l a b =
      made_split (links_from S j) (λ i. eqb (S.link j i) unknown) (λ i. leads j i (S.link j i)) (λ i. refl) (λ i count. refl) l a b

  -- the q-th four of 16 links
  pub fours_step : (j q : ℕ) → q < 4 → links_left j 16 (4 * q) ≡ form_bytes (links_from S j (4 * q) 4) ++ links_left j 16 (4 * (q + 1))
  fours_step j q h =
      let e : 16 - 4 * q ≡ 4 + (16 - 4 * (q + 1)) = omega arith in
      let n : 4 * q + 4 ≡ 4 * (q + 1) = omega arith in
      ap (λ (k : ℕ). form_bytes (links_from S j (4 * q) k)) e
      ∙ ap form_bytes (links_split j (4 * q) 4 (16 - 4 * (q + 1)))
      ∙ ap (λ (k : ℕ). form_bytes (links_from S j (4 * q) 4 ++ links_from S j k (16 - 4 * (q + 1)))) n
      ∙ bytes_append (links_from S j (4 * q) 4) (links_from S j (4 * (q + 1)) (16 - 4 * (q + 1)))

  -- none of four links is known
  pub none_known :
      (j l : ℕ) → S.link j l ≡ unknown → S.link j (l + 1) ≡ unknown → S.link j (l + 2) ≡ unknown → S.link j (l + 3) ≡ unknown →
      links_from S j l 4 ≡ []
  unfolding links_from
  none_known j l a b c d =
      let one : suc l ≡ l + 1 = omega arith in
      let two : suc (l + 1) ≡ l + 2 = omega arith in
      let three : suc (l + 2) ≡ l + 3 = omega arith in
      rw (a, one, b, two, c, three, d)

  pub joints_begin : (v from : ℕ) (s : List ℕ) → Putting (form_bytes (facts_from S 0 v)) from s s from (joints_left v 0)
  joints_begin v from s = let e : v ≡ v - 0 = omega arith in put_begins from s (ap (λ (k : ℕ). form_bytes (facts_from S 0 k)) e)

  pub joints_step : {v j : ℕ} → j < v → joints_left v j ≡ form_bytes (facts_at S j) ++ joints_left v (j + 1)
  unfolding facts_from
  joints_step {v} {j} h =
      let e : v - j ≡ suc (v - (j + 1)) = omega arith in
      rw (e, add-one) (bytes_append (facts_at S j) (facts_from S (suc j) (v - suc j)))

  pub joints_end : {v j : ℕ} → v ≤ j → joints_left v j ≡ []
  unfolding facts_from all_bytes
  joints_end {v} {j} h = let e : v - j ≡ 0 = omega arith in rw e

  -- the facts of a joint that is not its class's smallest, and of one that is
  at_other : (j : ℕ) {c : ℕ} → c ≡ S.class j → (c ≡ j → ⊥) → form_bytes (facts_at S j) ≡ same_bytes j c
  unfolding facts_at all_bytes
  at_other j {c} e d = rw (← e, ne_eqb c j d)

  at_smallest : (j : ℕ) {c k : ℕ} → c ≡ S.class j → c ≡ j → k ≡ S.kind j → form_bytes (facts_at S j) ≡ kind_bytes j k ++ links_left j 16 0
  unfolding facts_at
  at_smallest j {c} {k} e d q = rw (← e, eq-eqb c j d, ← q) (maybe_first (eqb k 1) (has_kind j k) (links_from S j 0 16))

-- bytes that are left out where x is y: a kind that is 1, a link that is not known
module _ (bytes : List ℕ) (at : ℕ) (s : List ℕ) {x y : ℕ} where
  pub left_out : x ≡ y → Put (cond (eqb x y) [] bytes) at s s at
  left_out e = rw (eq-eqb x y e) (none_put at s)

  pub room_needed : (x ≡ y → ⊥) → Room (cond (eqb x y) [] bytes) at s → Room bytes at s
  room_needed d r = rw (ne_eqb x y d) at r

  pub put_in : {t : List ℕ} {end : ℕ} → (x ≡ y → ⊥) → Put bytes at s t end → Put (cond (eqb x y) [] bytes) at s t end
  put_in d p = rw (ne_eqb x y d) p

-- the facts of joint j put at `at`, by the class and the kind that were read
module _ (S : Form) (j at : ℕ) (s : List ℕ) {c : ℕ} (e : c ≡ S.class j) where
  pub other_room : (c ≡ j → ⊥) → Room (form_bytes (facts_at S j)) at s → Room (same_bytes j c) at s
  other_room d r = rw (at_other S j e d) at r

  pub other_put : {t : List ℕ} {end : ℕ} → (c ≡ j → ⊥) → Put (same_bytes j c) at s t end → Put (form_bytes (facts_at S j)) at s t end
  other_put d p = rw (at_other S j e d) p

  module _ (d : c ≡ j) {k : ℕ} (q : k ≡ S.kind j) where
    joint_begins : Putting (form_bytes (facts_at S j)) at s s at (kind_bytes j k ++ links_left S j 16 0)
    joint_begins = put_begins at s (at_smallest S j e d q)

    pub kind_room : Room (form_bytes (facts_at S j)) at s → Room (kind_bytes j k) at s
    kind_room r = put_room joint_begins (kind_bytes j k) (links_left S j 16 0) refl r

    -- the kind is put; then the links
    module _ {t : List ℕ} {end : ℕ} (p : Put (kind_bytes j k) at s t end) where
      kind_done : Putting (form_bytes (facts_at S j)) at s t end (links_left S j 16 0)
      kind_done = put_goes_on joint_begins (links_left S j 16 0) refl p

      pub links_room : Room (form_bytes (facts_at S j)) at s → Room (links_left S j 16 0) end t
      links_room r = put_room kind_done (links_left S j 16 0) [] (sym (append-nil (links_left S j 16 0))) r

      pub smallest_put : {u : List ℕ} {last : ℕ} → Put (links_left S j 16 0) end t u last → Put (form_bytes (facts_at S j)) at s u last
      smallest_put l = put_ends (put_goes_on kind_done [] (sym (append-nil (links_left S j 16 0))) l) refl

-- the facts put from byte 6 on, and then the six bytes before them
pub form_put :
    (v : ℕ) (fs : List (Fact RigJoint)) {s t u : List ℕ} {end : ℕ} → 6 ≤ length s → Put (all_bytes fs) 6 s t end →
    u ≡ (end - 2) / 256 ∷ (end - 2) % 256 ∷ 1 ∷ 1 ∷ 0 ∷ v ∷ drop 6 t → Put (facts_packet v fs) 0 s u end
form_put v fs {s} {t} {u} {end} h p e =
    let m = length (all_bytes fs) in
    let six : end ≡ suc (suc (suc (suc (suc (suc m))))) = omega (arith, p.ends) in
    let q : end - 2 ≡ 4 + 4 * length fs = omega (arith, p.ends, bytes_four fs) in
    let behind : take m (drop 6 t) ≡ all_bytes fs =
    sym (drop_at (take 6 t) (take m (drop 6 t)) 6 (length-take-le 6 t (omega (arith, p.size))))
    ∙ ap (drop 6) (sym (take-add 6 m t) ∙ ap (λ (k : ℕ). take k t) (sym p.ends) ∙ p.front)
    ∙ drop_at (take 6 s) (all_bytes fs) 6 (length-take-le 6 s h) in
    record {
      size = ap length e ∙ omega (arith, length-drop 6 t, p.size);
      ends = omega (arith, six);
      front =
          ap (λ (k : ℕ). take k u) six
          ∙ ap (take (suc (suc (suc (suc (suc (suc m))))))) e
          ∙ ap (λ (l : List ℕ). (end - 2) / 256 ∷ (end - 2) % 256 ∷ 1 ∷ 1 ∷ 0 ∷ v ∷ l) behind
          ∙ ap (λ (l : ℕ). l / 256 ∷ l % 256 ∷ 1 ∷ 1 ∷ 0 ∷ v ∷ all_bytes fs) q;
      behind =
          ap (λ (k : ℕ). drop k u) six
          ∙ ap (drop (suc (suc (suc (suc (suc (suc m))))))) e
          ∙ drop-drop m 6 t
          ∙ ap (λ (k : ℕ). drop k t) (sym p.ends)
          ∙ p.behind;
    }
