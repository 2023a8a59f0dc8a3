-- Where a text stops being one of the language: the machine is alive behind all that some text of the language begins with, for it comes to
-- the end of that text, and a machine that is dead stays so.
-- Assumes nothing.
use mathlib.Core.Path.{◌≡◌, refl, sym, ◌∙◌, ap}
use mathlib.Core.Logic.{by_cases}
use mathlib.Core.List.{List, [], ◌∷◌, ◌++◌, append_assoc, append-nil}
use Prim.Native.Nat.{ℕ, suc, ◌≤◌, ◌<◌}
use native.Mathlib.Omega.{arith}
use native.Mathlib.Decide.{dec_lt}
use lib.ListN.{length, take, drop, take-append-drop, get_or-eq_default}
use lib.Seq.{take_all, take-take, take-suc}
use Rattle.terms.specs.Term.{Term, term_text}
use Rattle.terms.specs.Language.{Fits, Reading, Begun, NoTerm}
use Rattle.terms.specs.Machine.{Phase, State, end, here, step, run, start, end_of, behind_term}
use Rattle.terms.specs.Machine.State.{live, over, dead}
use Rattle.terms.proofs.Running.{run_append, run_term, ended}

pub begun_front : (w x : List ℕ) → Begun (w ++ x) → Begun w
begun_front w x b = record { t = b.t; rest = x ++ b.rest; fits = b.fits; begins = b.begins ∙ append_assoc w x b.rest }

pub term_begun : (t : Term) → Fits t 16 → Begun (term_text t)
term_begun t f = record { t = t; rest = []; fits = f; begins = sym (append-nil (term_text t)) }

dead_stays : (x : List ℕ) → run dead x ≡ dead
unfolding run step
dead_stays [] = refl
dead_stays (b ∷ x) = dead_stays x

live_not_dead : (around : ℕ) (p : Phase) → live around p ≡ dead → ⊥
live_not_dead around p e = let z : ◌≡◌ {A = ℕ} 0 1 = cc in omega arith

over_not_dead : over ≡ dead → ⊥
over_not_dead e = let z : ◌≡◌ {A = ℕ} 0 1 = cc in omega arith

pub begun_live : (w : List ℕ) → Begun w → run start w ≡ dead → ⊥
begun_live w b e =
    live_not_dead 0 (end_of b.t)
    (sym (run_term b.t 0 16 (omega arith) b.fits)
    ∙ ap (run start) b.begins
    ∙ run_append start w b.rest
    ∙ ap (λ (s : State). run s b.rest) e
    ∙ dead_stays b.rest)

read_over : (text : List ℕ) (t : Term) → Reading text t → run start (text ++ end ∷ []) ≡ over
unfolding run behind_term
read_over text t r =
    rw (r.spelled, run_append, run_term t 0 16 (omega arith) r.fits) (ended t 0 end refl (omega arith) (omega arith))

-- a text that is read is begun, and all its beginnings with it
begun_take : (w : List ℕ) (q : ℕ) → Begun w → Begun (take q w)
begun_take w q b = begun_front (take q w) (drop q w) (rw take-append-drop b)

read_begun : (text : List ℕ) (t : Term) → Reading text t → Begun text
read_begun text t r = rw r.spelled (term_begun t r.fits)

-- one byte further the machine is dead, so no text of the language begins so
module _ (text : List ℕ) (p : ℕ) (dies : step (run start (take p text)) (here text p) ≡ dead) where
  not_begun : p < length text → Begun (take (suc p) text) → ⊥
  unfolding run
  not_begun h b =
      begun_live (take (suc p) text) b
      (rw (take-suc text p end h, run_append) dies)

  further : (q : ℕ) → p < q → q ≤ length text → Begun (take q text) → ⊥
  further q h g b = not_begun (omega arith) (rw (take-take (suc p) q text h) at (begun_take (take q text) (suc p) b))

  not_over : p ≡ length text → run start (text ++ end ∷ []) ≡ dead
  unfolding run
  not_over h =
      run_append start text (end ∷ [])
      ∙ ap (λ (w : List ℕ). step (run start w) end) (sym (take_all p text (omega arith)))
      ∙ ap (step (run start (take p text))) (sym (get_or-eq_default text end {n = p} (omega arith)))
      ∙ dies

  unread : p ≤ length text → (t : Term) → Reading text t → ⊥
  unread h t r =
      by_cases (dec_lt p (length text))
      (λ g. not_begun g (begun_take text (suc p) (read_begun text t r)))
      (λ g. over_not_dead (sym (read_over text t r) ∙ not_over (omega arith)))

-- the machine is alive behind p bytes and dies at what stands there: that is where the text stops being one of the language
pub stuck : (text : List ℕ) (p : ℕ) → p ≤ length text → Begun (take p text) → step (run start (take p text)) (here text p) ≡ dead → NoTerm text p
stuck text p h b dies =
    record {
      unread = unread text p dies h;
      inside = h;
      begun = b;
      longest = λ q g c. by_cases (dec_lt p q) (λ f. absurd (further text p dies q f g c)) (λ f. omega arith);
    }
