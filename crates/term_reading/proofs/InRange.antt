-- A text whose numbers are in range says facts whose numbers are, and these are bytes.
-- Assumes nothing.
use mathlib.Core.Path.{◌≡◌, refl, ap, ◌∙◌}
use mathlib.Core.Bool.{Bool, true, false, cond, true≢false}
use mathlib.Core.List.{List, [], ◌∷◌, ◌++◌, map, map-append}
use Prim.Native.Nat.{ℕ, ◌+◌, ◌<◌, ◌≤◌}
use native.Mathlib.Omega.{arith}
use native.Mathlib.Nat.{mod-eq_of_lt}
use lib.ListN.{length}
use borrow.Author.Tests.{ltb-true}
use Rattle.std.specs.Prelude.{Ok}
use Rattle.replies.specs.declared.Cause.TheVariants.{OutOfRange}
use Rattle.replies.specs.Replies.{refuses, Reply, refusal}
use Rattle.meaning.specs.Picture.{Fact, rename}
use Rattle.meaning.specs.Picture.Fact.{has_kind, same, leads}
use Rattle.meaning.specs.Form.{rig_joint}
use Rattle.meaning.specs.Solving.{InRange, AllInRange}
use Rattle.meaning.proofs.Facts.{in_range_append}
use Rattle.packets.specs.FactsPacket.{fact_bytes, all_bytes}
use Rattle.writing.specs.Putting.{form_bytes}
use Rattle.terms.specs.Term.{Written, Term, Arguments, Token, opening, closing, comma, spell, term_tokens, argument_tokens, head_tokens, kind_tokens, link_tokens}
use Rattle.terms.specs.Term.Token.{sign}
use Rattle.terms.specs.Term.Written.{unwritten, written}
use Rattle.replies.proofs.Laws.{Each, each_left, each_right}
use Rattle.terms.specs.Term.Term.{bare, bracketed}
use Rattle.terms.specs.Term.Arguments.{one, more}
use Rattle.terms.specs.Facts.{joint_of, kind_facts, term_facts, argument_facts}
use Rattle.term_reading.specs.Range.{in_range, range_reply}
use Rattle.term_reading.specs.Reading.{low, low_bytes}

module _ (n v : ℕ) where
  -- every number among the tokens is in range
  abbrev pub In : Token → Type 0
  In k = in_range n v k ≡ true

  abbrev pub AllIn : List Token → Type 0
  AllIn ks = Each In ks

  -- which is what the reply tells
  told : (offset : ℕ) (ks : List Token) → refuses (range_reply n v offset ks) ≡ false → AllIn ks
  unfolding range_reply
  told offset [] e = tt
  told offset (k ∷ ks) e = by_token (in_range n v k) _ refl e (λ q. told (offset + length (spell k)) ks q)
    where
      by_token : (t : Bool) (r : Reply) → in_range n v k ≡ t → refuses (cond t r (refusal OutOfRange offset)) ≡ false →
          (refuses r ≡ false → AllIn ks) → (in_range n v k ≡ true) × AllIn ks
      by_token true r q h next = (q, next h)
      by_token false r q h next = absurd (true≢false h)

  pub tells : (offset : ℕ) (ks : List Token) → AllIn ks → range_reply n v offset ks ≡ Ok 0
  unfolding range_reply
  tells offset [] a = refl
  tells offset (k ∷ ks) a = rw a.0 (tells (offset + length (spell k)) ks a.1)

  -- whatever holds of "done" and of a number told out of range holds of the reply
  pub range_holds : (Of : Reply → Type 0) → Of (Ok 0) → ((p : ℕ) → Of (refusal OutOfRange p)) → (offset : ℕ) (ks : List Token) → Of (range_reply n v offset ks)
  unfolding range_reply
  range_holds Of fine wrong offset [] = fine
  range_holds Of fine wrong offset (k ∷ ks) = chosen (in_range n v k) _ (range_holds Of fine wrong (offset + length (spell k)) ks)
    where
      chosen : (t : Bool) (r : Reply) → Of r → Of (cond t r (refusal OutOfRange offset))
      chosen true r h = h
      chosen false r h = wrong offset

  pub range_done : (offset : ℕ) (ks : List Token) → refuses (range_reply n v offset ks) ≡ false → range_reply n v offset ks ≡ Ok 0
  range_done offset ks e = tells offset ks (told offset ks e)

  -- a term whose tokens are in range has all its facts in range
  kind_facts_lem : (j : ℕ) (s : Written) → j < v → AllIn (kind_tokens s) → AllInRange n v (kind_facts j s)
  kind_facts_lem j unwritten h a = tt
  kind_facts_lem j (written s) h a = ((h, ltb-true s n a.1.0), tt)

  mutual
    unfolding term_tokens term_facts

    term_facts_lem : (t : Term) → AllIn (term_tokens t) → (joint_of t < v) × AllInRange n v (term_facts t)
    term_facts_lem (bare j s) a = (ltb-true j v a.1.0, kind_facts_lem j s (ltb-true j v a.1.0) a.1.1)
    term_facts_lem (bracketed j s args) a =
        let front = each_left In (head_tokens j s ++ sign opening ∷ argument_tokens args) (sign closing ∷ []) a in
        let head = each_left In (head_tokens j s) (sign opening ∷ argument_tokens args) front in
        let h : j < v = ltb-true j v head.1.0 in
        let inner = each_right In (head_tokens j s) (sign opening ∷ argument_tokens args) front in
        (h, in_range_append n v (kind_facts j s) (argument_facts args j) (kind_facts_lem j s h head.1.1) (argument_facts_lem args j h inner.1))

    argument_facts_lem : (args : Arguments) (j : ℕ) → j < v → AllIn (argument_tokens args) → AllInRange n v (argument_facts args j)
    argument_facts_lem (one l t) j h a =
        let inner = term_facts_lem t (each_right In (link_tokens l) (term_tokens t) a) in
        ((h, ltb-true l 16 a.0, inner.0), inner.1)
    argument_facts_lem (more l t args) j h a =
        let first = each_left In (link_tokens l ++ term_tokens t) (sign comma ∷ argument_tokens args) a in
        let others = each_right In (link_tokens l ++ term_tokens t) (sign comma ∷ argument_tokens args) a in
        let inner = term_facts_lem t (each_right In (link_tokens l) (term_tokens t) first) in (
          (h, ltb-true l 16 a.0, inner.0),
          in_range_append n v (term_facts t) (argument_facts args j) inner.1 (argument_facts_lem args j h others.1),
        )

  pub facts_in_range : (t : Term) → range_reply n v 0 (term_tokens t) ≡ Ok 0 → AllInRange n v (term_facts t)
  facts_in_range t e = (term_facts_lem t (told 0 (term_tokens t) (ap refuses e))).1

  -- facts in range are made of bytes, where there are no more kinds and joints than bytes
  module _ (kinds : n ≤ 256) (joints : v ≤ 256) where
    small : (x : ℕ) → x < 256 → low x ≡ x
    small x h = mod-eq_of_lt h

    fact_low : (f : Fact ℕ) → InRange n v f → map low (fact_bytes (rename rig_joint f)) ≡ fact_bytes (rename rig_joint f)
    fact_low (has_kind a s) h = rw (small a (omega (arith, h.0)), small s (omega (arith, h.1)))
    fact_low (same a b) h = rw (small a (omega (arith, h.0)), small b (omega (arith, h.1)))
    fact_low (leads a l c) h = rw (small a (omega (arith, h.0)), small l (omega (arith, h.1)), small c (omega (arith, h.2)))

    pub in_range_low : (fs : List (Fact ℕ)) → AllInRange n v fs → low_bytes fs ≡ form_bytes fs
    unfolding all_bytes
    in_range_low [] h = refl
    in_range_low (f ∷ fs) h =
        map-append low (fact_bytes (rename rig_joint f)) (form_bytes fs)
        ∙ cc (fact_low f h.0, in_range_low fs h.1)
