-- Where texts that are no terms stop: the machine of the language dies there, and some term begins with what stands before.
-- Assumes nothing.
use mathlib.Core.Path.{◌≡◌, refl, ◌∙◌}
use mathlib.Core.List.{List, [], ◌∷◌, ◌++◌}
use Prim.Native.Nat.{ℕ, zero, suc, ◌≤◌}
use native.Mathlib.Omega.{arith}
use lib.ListN.{length, take, replicate}
use Rattle.std.specs.Prelude.{Ok}
use Rattle.replies.specs.Replies.{refusal}
use Rattle.replies.specs.declared.Cause.TheVariants.{NoTerm as no_term_cause}
use Rattle.decimals.specs.Decimal.{digits}
use Rattle.blocks.proofs.Shape.{block_done}
use Rattle.terms.specs.Term.{Term, text_of, term_text, term_tokens}
use Rattle.terms.specs.Term.Written.{unwritten}
use Rattle.terms.specs.Term.Term.{bare, bracketed}
use Rattle.terms.specs.Term.Arguments.{one}
use Rattle.terms.specs.Language.{Fits, NoTerm}
use Rattle.terms.specs.Machine.{here, step, run, start, behind_term, behind_head, behind_number, first_digit, next_digit}
use Rattle.terms.specs.Machine.State.{dead}
use Rattle.terms.proofs.Language.{stuck}
use Rattle.term_reading.specs.ReadTerm.{longest_text, read_term_refusal}
use Rattle.term_reading.specs.ReadTerm.ReadTerm.{no_term}
use Rattle.term_reading.proofs.Answers.{block_decides}
use Rattle.term_reading.proofs.OneRead.{read_term_one}
use Rattle.promises.specs.Examples.{opened, StopsAt, nested, TermPlaces}
use Rattle.promises.proofs.Readings.{reads_exactly}
use Rattle.promises.proofs.ExampleBlock.{opened_good}

-- a block opened with house kinds is refused no text of a size that may be lent
pub opened_passes : (text : List ℕ) → length text ≤ longest_text → read_term_refusal opened text ≡ Ok 0
opened_passes text h = block_decides opened text h ∙ block_done opened_good

stops : (text : List ℕ) (p : ℕ) → length text ≤ longest_text → NoTerm text p → StopsAt text p
stops text p h none out r x =
    let told = no_term (opened_passes text h) p none refl refl in (
      λ a. let e = read_term_one opened text out a told in ((reads_exactly r (refusal no_term_cause p)).0 e.0, e.1),
      λ e. rw ((reads_exactly r (refusal no_term_cause p)).1 e.0, e.1) told,
    )

-- a text with whose first p bytes some term begins, and at p a byte, or its end, at which the machine dies
module _ (text : List ℕ) (p : ℕ) (t : Term) (rest : List ℕ) where
  dies : length text ≤ longest_text → p ≤ length text → Fits t 16 → term_text t ≡ take p text ++ rest →
      step (run start (take p text)) (here text p) ≡ dead → StopsAt text p
  dies few inside fits begins e = stops text p few (stuck text p inside (record { t = t; rest = rest; fits = fits; begins = begins }) e)

nested_fits : (levels : ℕ) → Fits (nested levels) (suc levels)
unfolding nested
nested_fits zero = (omega arith, tt)
nested_fits (suc levels) = (omega arith, tt, (omega arith, nested_fits levels))

nested_length : length (term_text (nested 16)) ≡ 114
unfolding nested text_of term_tokens digits
nested_length = refl

-- some text begins so: that of the first 16 terms, closed behind the last
deep : StopsAt (term_text (nested 16)) 92
unfolding nested step run first_digit next_digit behind_number behind_head text_of term_tokens digits
deep =
    dies (term_text (nested 16)) 92 (nested 15) (replicate 15 41) (omega (arith, nested_length)) (omega (arith, nested_length)) (nested_fits 15)
    refl refl

pub term_places : TermPlaces
unfolding step run first_digit next_digit behind_number behind_head behind_term text_of term_tokens digits
term_places =
    record {
      empty = dies [] 0 (bare 0 unwritten) (64 ∷ 48 ∷ []) (omega arith) (omega arith) (omega arith, tt) refl refl;
      ended = dies _ 1 (bare 0 unwritten) (48 ∷ []) (omega arith) (omega arith) (omega arith, tt) refl refl;
      leading = dies _ 2 (bare 0 unwritten) [] (omega arith) (omega arith) (omega arith, tt) refl refl;
      four = dies _ 4 (bare 123 unwritten) [] (omega arith) (omega arith) (omega arith, tt) refl refl;
      none =
          dies _ 3 (bracketed 0 unwritten (one 0 (bare 0 unwritten))) (48 ∷ 61 ∷ 62 ∷ 64 ∷ 48 ∷ 41 ∷ []) (omega arith) (omega arith)
          (omega arith, tt, (omega arith, (omega arith, tt))) refl refl;
      behind = dies _ 2 (bare 0 unwritten) [] (omega arith) (omega arith) (omega arith, tt) refl refl;
      deep = deep;
    }
