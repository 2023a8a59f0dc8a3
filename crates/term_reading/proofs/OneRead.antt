-- Reading allows one result: a text has one reading or one place where it stops. A text that is a term is read, where its numbers are in
-- range, its facts are few enough and the output has room; and reply 20 is given exactly where a text is no term.
-- Assumes nothing.
use mathlib.Core.Path.{◌≡◌, sym, ◌∙◌, ap}
use mathlib.Core.Logic.{◌↔◌, ◌≢◌}
use mathlib.Core.Bool.{Bool, true, false}
use mathlib.Core.List.{List, ◌++◌}
use Prim.Native.Nat.{ℕ, ◌≤◌}
use native.Mathlib.Omega.{arith}
use lib.Dec.{leb}
use lib.ListN.{length, drop}
use Rattle.std.specs.Prelude.{Ok}
use Rattle.replies.specs.declared.Cause.{Cause}
use Rattle.replies.specs.declared.Cause.TheVariants.{TooManyFacts, ShortOutput, NoTerm as no_term_cause}
use Rattle.replies.specs.Replies.{cause_number, number, unless, Reply, refusal}
use Rattle.replies.proofs.Laws.{not_both, first_holds}
use Rattle.joints.specs.Layout.{kinds_of, joints_of}
use Rattle.outputs.specs.Output.{output_reply}
use Rattle.outputs.proofs.Output.{has_room, all_put}
use Rattle.terms.specs.Term.{Term, Token, term_tokens}
use Rattle.terms.specs.Language.{Reading}
use Rattle.terms.specs.Facts.{term_facts}
use Rattle.terms.proofs.OneReading.{one_reading, no_term_one}
use Rattle.term_reading.specs.Range.{range_reply}
use Rattle.term_reading.specs.ReadTerm.{ReadTerm, read_term_refusal, term_packet, term_reply, term_output, most_facts}
use Rattle.term_reading.specs.ReadTerm.ReadTerm.{refused, no_term, term}
use Rattle.term_reading.proofs.InRange.{range_holds}
use Rattle.term_reading.proofs.Answers.{goes_out, is_put}

pub read_term_one : (b text out : List ℕ) {r s : Reply} {x y : List ℕ} → ReadTerm b text out r x → ReadTerm b text out s y → (r ≡ s) × (x ≡ y)
read_term_one b text out (refused e q k) (refused e' q' k') = (q ∙ sym q', k ∙ sym k')
read_term_one b text out (refused e q k) (no_term d p u q' k') = absurd (not_both e d)
read_term_one b text out (refused e q k) (term d t u q' k') = absurd (not_both e d)
read_term_one b text out (no_term d p u q k) (refused e q' k') = absurd (not_both e d)
read_term_one b text out (no_term d p u q k) (no_term d' p' u' q' k') =
    (q ∙ ap (refusal no_term_cause) (no_term_one text p p' u u') ∙ sym q', k ∙ sym k')
read_term_one b text out (no_term d p u q k) (term d' t u' q' k') = absurd (u.unread t u')
read_term_one b text out (term d t u q k) (refused e q' k') = absurd (not_both e d)
read_term_one b text out (term d t u q k) (no_term d' p u' q' k') = absurd (u'.unread t u)
read_term_one b text out (term d t u q k) (term d' t' u' q' k') =
    let same = one_reading text t t' u u' in (
      q ∙ ap (λ (v : Term). term_reply (kinds_of b) (joints_of b) v out) same ∙ sym q',
      k ∙ ap (λ (v : Term). term_output (kinds_of b) (joints_of b) v out) same ∙ sym k',
    )

-- a term in range, of few enough facts, whose packet the output has room for
module _ (b : List ℕ) (t : Term) (out : List ℕ) where
  abbrev packet : List ℕ
  packet = term_packet (joints_of b) t

  pub record Readable : Type 0 where
    pub in_range : range_reply (kinds_of b) (joints_of b) 0 (term_tokens t) ≡ Ok 0
    pub few : length (term_facts t) ≤ most_facts
    pub room : length packet ≤ length out

  term_done : Readable → term_reply (kinds_of b) (joints_of b) t out ≡ Ok (length packet)
  term_done h = goes_out (kinds_of b) (joints_of b) t out h.in_range h.few ∙ has_room packet out h.room

  term_put : Readable → term_output (kinds_of b) (joints_of b) t out ≡ packet ++ drop (length packet) out
  term_put h = sym (is_put (kinds_of b) (joints_of b) t out h.in_range h.few) ∙ sym (all_put packet out h.room)

-- "Every such text is read"
module _ (b text out : List ℕ) (passes : read_term_refusal b text ≡ Ok 0) where
  module _ (t : Term) (reading : Reading text t) (readable : Readable b t out) where
    pub reads :
        ReadTerm b text out (Ok (length (term_packet (joints_of b) t))) (term_packet (joints_of b) t ++ drop (length (term_packet (joints_of b) t)) out)
    reads = term passes t reading (sym (term_done b t out readable)) (sym (term_put b t out readable))

    pub reads_only : {r : Reply} {x : List ℕ} → ReadTerm b text out r x →
        (r ≡ Ok (length (term_packet (joints_of b) t))) × (x ≡ term_packet (joints_of b) t ++ drop (length (term_packet (joints_of b) t)) out)
    reads_only read = read_term_one b text out read reads

-- reply 20 is given for no term
abbrev NotTwenty : Reply → Type 0
NotTwenty r = number r ≢ 20

unless_not : (t : Bool) (c : Cause) → cause_number c ≢ 20 → NotTwenty (unless t c 0)
unless_not true c h = λ e. omega (arith, e)
unless_not false c h = h

range_not : (n v offset : ℕ) (ks : List Token) → NotTwenty (range_reply n v offset ks)
range_not n v offset ks = range_holds n v NotTwenty (λ e. omega (arith, e)) (λ p e. omega (arith, e)) offset ks

term_not : (b : List ℕ) (t : Term) (out : List ℕ) → NotTwenty (term_reply (kinds_of b) (joints_of b) t out)
unfolding term_reply output_reply
term_not b t out =
    let bytes : List ℕ = term_packet (joints_of b) t in
    first_holds NotTwenty _ _ (
      range_not (kinds_of b) (joints_of b) 0 (term_tokens t),
      (unless_not (leb (length (term_facts t)) most_facts) TooManyFacts (λ e. omega (arith, e)), tt),
    )
    (first_holds NotTwenty _ _ (unless_not (leb (length bytes) (length out)) ShortOutput (λ e. omega (arith, e)), tt) (λ e. omega (arith, e)))

-- given exactly where the text is no term, when the call is not refused before
pub refused_20_exactly : (b text out : List ℕ) {r : Reply} {x : List ℕ} → read_term_refusal b text ≡ Ok 0 → ReadTerm b text out r x →
    (number r ≡ 20) ↔ ((t : Term) → Reading text t → ⊥)
refused_20_exactly b text out d (refused e q k) = absurd (not_both e d)
refused_20_exactly b text out d (no_term d' p u q k) = (λ _. u.unread, λ _. ap number q)
refused_20_exactly b text out d (term d' t u q k) = (λ e. absurd (term_not b t out (ap number (sym q) ∙ e)), λ none. absurd (none t u))
