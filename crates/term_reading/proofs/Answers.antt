-- What is answered once the text is read: the whole text, the packet of its facts, and the replies in their order.
-- Assumes nothing.
use mathlib.Core.Path.{◌≡◌, refl, sym, ap, ◌∙◌, subst}
use mathlib.Core.Logic.{◌≢◌}
use mathlib.Core.Bool.{Bool, true, false, cond, true≢false}
use mathlib.Core.List.{List, [], ◌∷◌, ◌++◌, map}
use Prim.Native.Nat.{ℕ, ◌+◌, ◌*◌, ◌/◌, ◌%◌, ◌<◌, ◌≤◌}
use native.Mathlib.Omega.{arith}
use Rattle.std.specs.Prelude.{Some, None, Result, Ok, Err, IfOk, IsErrAnd, MatchResult}
use Rattle.std.specs.Result.{is_ok}
use Rattle.std.proofs.lemmas.Result.{IfOk-at_ok}
use lib.Dec.{leb}
use lib.ListN.{length, get_or, take, drop, length-map}
use lib.Seq.{take_all, take-append-add}
use borrow.Author.Tests.{le-leb, lt-leb}
use Rattle.std.proofs.lemmas.List.{drop-take}
use Rattle.replies.specs.declared.Cause.TheVariants.{BadSize, OutOfRange, TooManyFacts}
use Rattle.replies.specs.Replies.{refuses, first_refusal, Reply, refusal}
use Rattle.replies.proofs.Laws.{first_here, first_next, first_none, test_here, test_next}
use Rattle.meaning.specs.Picture.{rename}
use Rattle.meaning.specs.Form.{rig_joint}
use Rattle.writing.specs.Putting.{form_bytes}
use Rattle.joints.specs.Layout.{kinds_of, joints_of}
use Rattle.blocks.specs.WellFormed.{block_reply}
use Rattle.outputs.specs.Output.{output_reply, output_after}
use Rattle.outputs.proofs.Output.{output_stays}
use Rattle.terms.specs.Term.{Term, term_tokens}
use Rattle.terms.specs.Language.{NoTerm, deepest}
use Rattle.terms.specs.Facts.{term_facts}
use Rattle.terms.specs.Machine.{here, end}
use Rattle.term_reading.specs.declared.Front.{Front}
use Rattle.term_reading.specs.Range.{range_reply}
use Rattle.term_reading.specs.ReadTerm.{longest_text, most_facts, term_packet, term_reply, term_output, read_term_refusal, ReadTerm}
use Rattle.term_reading.specs.ReadTerm.ReadTerm.{refused, no_term as call_no_term, term as call_term}
use Rattle.term_reading.specs.Reading.TextAnswer.{no_term, term}
use Rattle.term_reading.specs.Reading.{wrong_reply, low_bytes, TermRead, WholeRead, Holding, PacketAnswer, TextAnswer}
use Rattle.term_reading.proofs.Segments.{same_byte}
use Rattle.term_reading.proofs.Contexts.{nothing_behind}
use Rattle.term_reading.proofs.InRange.{facts_in_range, in_range_low}

abbrev pub first_front : Front
first_front = record { at = 0; facts = 0; wrong = None }

long_refuses : (b text : List ℕ) → longest_text < length text → read_term_refusal b text ≡ refusal BadSize 0
unfolding read_term_refusal
long_refuses b text h = test_here (leb (length text) longest_text) BadSize 0 [] (block_reply b) (lt-leb (length text) longest_text h)

pub block_decides : (b text : List ℕ) → length text ≤ longest_text → read_term_refusal b text ≡ block_reply b
unfolding read_term_refusal
block_decides b text h =
    test_next (leb (length text) longest_text) BadSize 0 [] (block_reply b) (le-leb (length text) longest_text h) ∙ first_none (block_reply b)

-- the whole text, from its outermost term
module _
    {text : List ℕ} {n v : ℕ} {s : List ℕ} {last : Front} {t : List ℕ} (r : TermRead text n v 0 None first_front s last t)
  where
    pub whole_read : length text ≤ last.at → WholeRead text n v s last t
    unfolding first_refusal
    whole_read h =
        record {
          t = r.t;
          reading = record { spelled = sym (take_all last.at text h) ∙ r.segment.spelled; fits = r.fits deepest refl };
          range = r.segment.range;
          said = r.said;
        }

    pub more_behind : last.at < length text → here text last.at ≢ end → NoTerm text last.at
    more_behind inside h = nothing_behind text r.t last.at (r.fits deepest refl) r.segment.spelled inside h r.ended

-- a byte is not the end
pub byte_is_no_end : (text : List ℕ) (p : ℕ) → p < length text → get_or text p 0 < 256 → here text p ≢ end
byte_is_no_end text p inside small e = omega (arith, small, same_byte text p inside, e)

-- the facts of a whole text, behind six bytes
holding : {text : List ℕ} {n v : ℕ} {s : List ℕ} {last : Front} {t : List ℕ} (w : WholeRead text n v s last t) →
    ((x : List ℕ) → drop 6 (take 6 s ++ x) ≡ x) → Holding w.t last.facts t
holding {last = last} {t = t} w six =
    record {
      counted = omega (arith, w.said.counted);
      bytes = λ few. sym (drop-take 6 (4 * last.facts) t) ∙ ap (drop 6) (w.said.bytes few) ∙ six (low_bytes (term_facts w.t));
    }

-- the reply to a term, and the output afterwards
module _ (n v : ℕ) (t : Term) (out : List ℕ) where
  term_refused : {x : Reply} → term_reply n v t out ≡ x → refuses x ≡ true → out ≡ term_output n v t out
  unfolding term_output
  term_refused e f = rw (e, f)

  pub range_refuses : {x : Reply} → range_reply n v 0 (term_tokens t) ≡ x → refuses x ≡ true → term_reply n v t out ≡ x
  unfolding term_reply
  range_refuses e f = first_here (range_reply n v 0 (term_tokens t)) _ _ (ap refuses e ∙ f) ∙ e

  module _ (in_range : range_reply n v 0 (term_tokens t) ≡ Ok 0) where
    pub many_refuses : most_facts < length (term_facts t) → term_reply n v t out ≡ refusal TooManyFacts 0
    unfolding term_reply
    many_refuses h =
        first_next (range_reply n v 0 (term_tokens t)) _ _ (ap refuses in_range)
        ∙ test_here (leb (length (term_facts t)) most_facts) TooManyFacts 0 [] _ (lt-leb (length (term_facts t)) most_facts h)

    module _ (few : length (term_facts t) ≤ most_facts) where
      pub goes_out : term_reply n v t out ≡ output_reply (term_packet v t) out
      unfolding term_reply
      goes_out =
          first_next (range_reply n v 0 (term_tokens t)) _ _ (ap refuses in_range)
          ∙ test_next (leb (length (term_facts t)) most_facts) TooManyFacts 0 [] (output_reply (term_packet v t) out) (le-leb _ _ few)
          ∙ first_none (output_reply (term_packet v t) out)

      pub is_put : output_after (term_packet v t) out ≡ term_output n v t out
      unfolding term_output
      is_put = by_reply (refuses (output_reply (term_packet v t) out)) refl
        where
          by_reply : (b : Bool) → refuses (output_reply (term_packet v t) out) ≡ b →
              output_after (term_packet v t) out ≡ cond (refuses (term_reply n v t out)) out (output_after (term_packet v t) out)
          by_reply true e = rw (goes_out, e) (sym (output_stays (term_packet v t) out e))
          by_reply false e = rw (goes_out, e)

module _ (front : Front) (v : ℕ) (packet out : List ℕ) where
  -- 21
  pub out_of_range : {place : ℕ} → front.wrong ≡ Some place → PacketAnswer front v packet out (refusal OutOfRange place) out
  out_of_range {place} h =
      record {
        told =
            λ n t _ _ e _.
            let q : range_reply n v 0 (term_tokens t) ≡ refusal OutOfRange place = sym e ∙ ap wrong_reply h in
            let r = range_refuses n v t out q refl in
            (sym r, term_refused n v t out r refl);
      }

  module _ (none : front.wrong ≡ None) where
    in_range : (n : ℕ) (t : Term) → wrong_reply front.wrong ≡ range_reply n v 0 (term_tokens t) → range_reply n v 0 (term_tokens t) ≡ Ok 0
    in_range n t e = sym e ∙ ap wrong_reply none

    -- 22
    pub too_many : most_facts < front.facts → PacketAnswer front v packet out (refusal TooManyFacts 0) out
    too_many h =
        record {
          told =
              λ n t _ _ e f.
              let r = many_refuses n v t out (in_range n t e) (omega (arith, h, f.counted)) in
              (sym r, term_refused n v t out r refl);
        }

    module _ (few : front.facts ≤ most_facts) where
      -- the packet, whose first six bytes are put
      packet_is : (n : ℕ) (t : Term) → n ≤ 256 → v ≤ 256 → range_reply n v 0 (term_tokens t) ≡ Ok 0 → Holding t front.facts packet →
          take (6 + 4 * front.facts) ((4 + 4 * front.facts) / 256 ∷ (4 + 4 * front.facts) % 256 ∷ 1 ∷ 1 ∷ 0 ∷ v ∷ drop 6 packet) ≡ term_packet v t
      packet_is n t kinds joints e h =
          let k : length (map (rename rig_joint) (term_facts t)) ≡ front.facts = length-map (term_facts t) (rename rig_joint) ∙ sym h.counted in
          let f = 4 + 4 * front.facts in
          take-append-add (f / 256 ∷ f % 256 ∷ 1 ∷ 1 ∷ 0 ∷ v ∷ []) (drop 6 packet) (4 * front.facts)
          ∙ ap (λ (y : List ℕ). f / 256 ∷ f % 256 ∷ 1 ∷ 1 ∷ 0 ∷ v ∷ y)
          (h.bytes few ∙ in_range_low n v kinds joints (term_facts t) (facts_in_range n v t e))
          ∙ ap (λ (c : ℕ). (4 + 4 * c) / 256 ∷ (4 + 4 * c) % 256 ∷ 1 ∷ 1 ∷ 0 ∷ v ∷ form_bytes (term_facts t)) (sym k)

      -- 12, or done
      pub put : {bytes : List ℕ} {reply : Reply} {after : List ℕ} →
          bytes ≡ take (6 + 4 * front.facts) ((4 + 4 * front.facts) / 256 ∷ (4 + 4 * front.facts) % 256 ∷ 1 ∷ 1 ∷ 0 ∷ v ∷ drop 6 packet) →
          reply ≡ output_reply bytes out → after ≡ output_after bytes out → PacketAnswer front v packet out reply after
      put b r a =
          record {
            told =
                λ n t kinds joints e h.
                let i = in_range n t e in
                let p = b ∙ packet_is n t kinds joints i h in
                let c : length (term_facts t) ≤ most_facts = omega (arith, few, h.counted) in (
                  r ∙ ap (λ (y : List ℕ). output_reply y out) p ∙ sym (goes_out n v t out i c),
                  a ∙ ap (λ (y : List ℕ). output_after y out) p ∙ is_put n v t out i c,
                );
          }

-- a text that is read has the answer of its packet
pub text_read : {text : List ℕ} {n v : ℕ} {s : List ℕ} {last : Front} {t : List ℕ} {out : List ℕ} {reply : Reply} {after : List ℕ} →
    WholeRead text n v s last t → ((x : List ℕ) → drop 6 (take 6 s ++ x) ≡ x) → n ≤ 256 → v ≤ 256 →
    PacketAnswer last v t out reply after → TextAnswer text n v out reply after
text_read {n = n} w six kinds joints p =
    let answer = p.told n w.t kinds joints w.range (holding w six) in
    term w.t w.reading answer.0 answer.1

-- what `map_err` makes of an answer
abbrev pub Mapped : {A E D : Type 0} → (E → D → Type 0) → Result A E → Result A D → Type 0
Mapped Post r mapped = MatchResult r (λ x. mapped ≡ Ok x) (λ e. IsErrAnd mapped (Post e))

module _ {A E D : Type 0} (Post : E → D → Type 0) where
  pub mapped_value : (r : Result A E) {mapped : Result A D} {x : A} → Mapped Post r mapped → mapped ≡ Ok x → r ≡ Ok x
  mapped_value (Ok y) m was =
      let Same : A → Type 0 = λ z. y ≡ z in
      ap (λ (z : A). Ok z) (IfOk-at_ok Same was (subst (λ (q : Result A D). IfOk q Same) (sym m) refl))
  mapped_value (Err e) m was = absurd (subst (λ z. IsErrAnd z (Post e)) was m)

  pub mapped_error : (r : Result A E) {mapped : Result A D} {d : D} → Mapped Post r mapped → mapped ≡ Err d → (e : E) × (r ≡ Err e) × Post e d
  mapped_error (Ok y) m was = absurd (true≢false (ap is_ok (sym m ∙ was)))
  mapped_error (Err e) m was = (e, refl, subst (λ z. IsErrAnd z (Post e)) was m)

-- and the call has the answer of the text, unless it is refused before
module _ (b text out : List ℕ) where
  pub too_long : longest_text < length text → ReadTerm b text out (refusal BadSize 0) out
  too_long h =
      let r : read_term_refusal b text ≡ refusal BadSize 0 = long_refuses b text h in
      refused (ap refuses r) (sym r) refl

  pub bad_block : {x : Reply} → length text ≤ longest_text → x ≡ block_reply b → refuses (block_reply b) ≡ true → ReadTerm b text out x out
  bad_block h e f =
      let r = block_decides b text h in
      refused (ap refuses r ∙ f) (e ∙ sym r) refl

  pub answered : {reply : Reply} {after : List ℕ} → length text ≤ longest_text → block_reply b ≡ Ok 0 →
      TextAnswer text (kinds_of b) (joints_of b) out reply after → ReadTerm b text out reply after
  answered {reply = reply} {after = after} h done = by_answer
    where
      passes : read_term_refusal b text ≡ Ok 0
      passes = block_decides b text h ∙ done

      by_answer : TextAnswer text (kinds_of b) (joints_of b) out reply after → ReadTerm b text out reply after
      by_answer (no_term p x r k) = call_no_term passes p x r k
      by_answer (term t x r k) = call_term passes t x r k
