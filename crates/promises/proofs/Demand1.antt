-- Demand 1, sentence by sentence: which numbers each call may give, and that a refusal writes nothing. Each by the cases of a contract.
-- Assumes nothing.
use mathlib.Core.Path.{◌≡◌, refl, sym, ◌∙◌, ap}
use mathlib.Core.Bool.{Bool, true, false, cond, true≢false}
use mathlib.Core.List.{List, [], ◌∷◌}
use Prim.Native.Nat.{ℕ}
use lib.Dec.{eqb, leb, ltb}
use lib.ListN.{length}
use Rattle.std.specs.Prelude.{Ok}
use Rattle.replies.specs.declared.Cause.TheVariants.{BadSize, ShortOutput, OutOfRange, TooManyFacts}
use Rattle.replies.specs.Replies.{number, refuses, unless, Reply}
use Rattle.meaning.specs.Rule.{Rule}
use Rattle.reach.specs.Reached.{ReachReply}
use Rattle.reach.specs.Reached.SmallestNot.{all, not_reached}
use Rattle.opening.specs.Open.{open_reply, open_block}
use Rattle.opening.proofs.Opening.{stays}
use Rattle.taking.specs.Take.{Take, take_refusal}
use Rattle.taking.specs.Take.Take.{refused as take_refused, clashes, done}
use Rattle.asking.specs.Ask.{Ask, ask_refusal}
use Rattle.asking.specs.Ask.Ask.{refused as ask_refused, unreached, judged}
use Rattle.outputs.specs.Output.{output_reply, output_after}
use Rattle.outputs.proofs.Output.{output_stays}
use Rattle.writing.specs.Write.{solved_form, write_reply, written_output}
use Rattle.joints.specs.Layout.{kinds_of, joints_of}
use Rattle.blocks.specs.WellFormed.{block_reply}
use Rattle.terms.specs.Term.{Term, Token, term_tokens}
use Rattle.terms.specs.Facts.{term_facts}
use Rattle.term_reading.specs.Range.{range_reply}
use Rattle.term_reading.proofs.InRange.{range_holds}
use Rattle.term_reading.specs.ReadTerm.{ReadTerm, longest_text, most_facts, read_term_refusal, term_packet, term_reply, term_output}
use Rattle.term_reading.specs.ReadTerm.ReadTerm.{refused as read_refused, no_term, term}
use Rattle.term_writing.specs.WriteTerm.{WriteTerm, write_term_refusal, written_text}
use Rattle.term_writing.specs.WriteTerm.WriteTerm.{refused as write_refused, no_tree, tree}
use Rattle.house.specs.Meets.{house_table}
use Rattle.vornulica.specs.House.{house_reply, house_buffer}
use Rattle.promises.specs.HostReplies.{listed, gives, open_numbers, take_numbers, ask_numbers, write_numbers, house_numbers}
use Rattle.promises.specs.HostReplies.{read_term_numbers, write_term_numbers}
use Rattle.promises.proofs.Refusals.{listed_more, unless_gives, first_gives, early_numbers, open_gives, block_gives, take_refusal_gives}
use Rattle.promises.proofs.Refusals.{ask_refusal_gives}

-- "For every input each call ends with an answer from document 01's table": those listed for the call
pub open_answers : (n v : ℕ) (table b : List ℕ) → gives open_numbers (open_reply n v table b) ≡ true
open_answers = open_gives

pub take_answers : {b p after : List ℕ} {r : Reply} → Take b p r after → gives take_numbers r ≡ true
unfolding listed
take_answers {b} {p} (take_refused e q _) =
    ap (gives take_numbers) q ∙ listed_more early_numbers (11 ∷ []) (number (take_refusal b p)) (take_refusal_gives b p)
take_answers (clashes d i f q _) = ap (gives take_numbers) q
take_answers (done d a q) = ap (gives take_numbers) q

reach_answers : {r : Rule} {x : Reply} → ReachReply r x → gives ask_numbers x ≡ true
unfolding listed
reach_answers (all f) = refl
reach_answers (not_reached j h d f) = refl

pub ask_answers : {b p : List ℕ} {r : Reply} → Ask b p r → gives ask_numbers r ≡ true
unfolding listed
ask_answers {b} {p} (ask_refused e q) =
    ap (gives ask_numbers) q ∙ listed_more early_numbers (10 ∷ []) (number (ask_refusal b p)) (ask_refusal_gives b p)
ask_answers (unreached d x e) = reach_answers x
ask_answers (judged d x v j q) = ap (gives ask_numbers) q

output_gives : (numbers bytes out : List ℕ) → listed numbers 0 ≡ true → listed numbers 12 ≡ true → gives numbers (output_reply bytes out) ≡ true
unfolding output_reply
output_gives numbers bytes out has_0 has_12 =
    first_gives numbers _ (Ok (length bytes)) (unless_gives numbers (leb (length bytes) (length out)) ShortOutput 0 has_0 has_12, tt) has_0

pub write_answers : (b out : List ℕ) → gives write_numbers (write_reply b out) ≡ true
unfolding write_reply listed
write_answers b out =
    first_gives write_numbers _ (output_reply (solved_form b) out) (block_gives write_numbers refl refl refl b, tt)
    (output_gives write_numbers (solved_form b) out refl refl)

-- reading a term and writing one
range_gives : (n v offset : ℕ) (ks : List Token) → gives read_term_numbers (range_reply n v offset ks) ≡ true
unfolding listed
range_gives n v offset ks = range_holds n v (λ r. gives read_term_numbers r ≡ true) refl (λ p. refl) offset ks

term_gives : (b : List ℕ) (t : Term) (out : List ℕ) → gives read_term_numbers (term_reply (kinds_of b) (joints_of b) t out) ≡ true
unfolding term_reply listed
term_gives b t out =
    first_gives read_term_numbers _ (output_reply (term_packet (joints_of b) t) out) (
      range_gives (kinds_of b) (joints_of b) 0 (term_tokens t),
      (unless_gives read_term_numbers (leb (length (term_facts t)) most_facts) TooManyFacts 0 refl refl, tt),
    )
    (output_gives read_term_numbers (term_packet (joints_of b) t) out refl refl)

pub read_term_answers : {b text out after : List ℕ} {r : Reply} → ReadTerm b text out r after → gives read_term_numbers r ≡ true
unfolding read_term_refusal listed
read_term_answers {b} {text} (read_refused e q _) =
    ap (gives read_term_numbers) q
    ∙ first_gives read_term_numbers _ (block_reply b) (unless_gives read_term_numbers (leb (length text) longest_text) BadSize 0 refl refl, tt)
    (block_gives read_term_numbers refl refl refl b)
read_term_answers (no_term d p u q _) = ap (gives read_term_numbers) q
read_term_answers {b} {out = out} (term d t u q _) = ap (gives read_term_numbers) q ∙ term_gives b t out

pub write_term_answers : {b out after : List ℕ} {root : ℕ} {r : Reply} → WriteTerm b root out r after → gives write_term_numbers r ≡ true
unfolding write_term_refusal listed
write_term_answers {b} {root = root} (write_refused e q _) =
    ap (gives write_term_numbers) q
    ∙ first_gives write_term_numbers _ (Ok 0) (
      block_gives write_term_numbers refl refl refl b,
      (unless_gives write_term_numbers (ltb root (joints_of b)) OutOfRange 0 refl refl, tt),
    )
    refl
write_term_answers (no_tree d none q _) = ap (gives write_term_numbers) q
write_term_answers {b} {out} {root = root} (tree d from q _) =
    ap (gives write_term_numbers) q ∙ output_gives write_term_numbers (written_text b root) out refl refl

pub house_answers : (buffer : List ℕ) → gives house_numbers (house_reply buffer) ≡ true
unfolding listed
house_answers buffer = unless_gives house_numbers (eqb (length buffer) 1089) BadSize 0 refl refl

-- "A refused call changes no byte of the session or of an output buffer"; asking is lent both for reading alone
pub refused_open : (n v : ℕ) (table b : List ℕ) → refuses (open_reply n v table b) ≡ true → open_block n v table b ≡ b
refused_open n v table b e = sym (stays n v table b e)

pub refused_take : {b p after : List ℕ} {r : Reply} → Take b p r after → refuses r ≡ true → after ≡ b
refused_take (take_refused e q same) _ = same
refused_take (clashes d i f q same) _ = same
refused_take (done d a q) e = absurd (true≢false (sym e ∙ ap refuses q))

pub refused_write : (b out : List ℕ) → refuses (write_reply b out) ≡ true → written_output b out ≡ out
unfolding written_output
refused_write b out e = ap (λ (t : Bool). cond t out (output_after (solved_form b) out)) e

pub refused_read_term : {b text out after : List ℕ} {r : Reply} → ReadTerm b text out r after → refuses r ≡ true → after ≡ out
unfolding term_output
refused_read_term (read_refused e q same) _ = same
refused_read_term (no_term d p u q same) _ = same
refused_read_term {b} {out = out} (term d t u q put) e =
    put ∙ ap (λ (s : Bool). cond s out (output_after (term_packet (joints_of b) t) out)) (ap refuses (sym q) ∙ e)

pub refused_write_term : {b out after : List ℕ} {root : ℕ} {r : Reply} → WriteTerm b root out r after → refuses r ≡ true → after ≡ out
refused_write_term (write_refused e q same) _ = same
refused_write_term (no_tree d none q same) _ = same
refused_write_term {b} {out} {root = root} (tree d from q put) e = put ∙ sym (output_stays (written_text b root) out (ap refuses (sym q) ∙ e))

pub refused_house : (buffer : List ℕ) → refuses (house_reply buffer) ≡ true → house_buffer buffer ≡ buffer
refused_house buffer e = by_size (eqb (length buffer) 1089) e
  where
    by_size : (t : Bool) → refuses (unless t BadSize 0) ≡ true → cond t house_table buffer ≡ buffer
    by_size true e = absurd (true≢false (sym e))
    by_size false e = refl
