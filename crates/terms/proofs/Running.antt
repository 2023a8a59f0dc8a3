-- Where the machine is behind a piece of text: over two pieces it runs over one and then the other, so number by number, sign by sign and term
-- by term.
-- Assumes nothing.
use mathlib.Core.Path.{◌≡◌, refl, ◌∙◌, ap}
use mathlib.Core.Logic.{by_cases, ◌≢◌}
use mathlib.Core.Bool.{true, false}
use mathlib.Core.List.{List, [], ◌∷◌, ◌++◌, append_assoc, append-nil}
use Prim.Native.Nat.{ℕ, zero, suc, ◌+◌, ◌*◌, ◌≤◌, ◌<◌}
use native.Mathlib.Omega.{arith}
use native.Mathlib.Decide.{ℕ_discrete}
use borrow.Author.Tests.{lt-ltb, le-ltb, le-leb, ne_eqb}
use Rattle.decimals.specs.Decimal.{digit, decimal}
use Rattle.terms.specs.Term.{Written, Term, Arguments, Token, colon, opening, closing, comma}
use Rattle.terms.specs.Term.{equals, text_of, term_text, term_tokens, argument_tokens, head_tokens, link_tokens}
use Rattle.terms.specs.Term.Written.{unwritten, written}
use Rattle.terms.specs.Term.Term.{bare, bracketed}
use Rattle.terms.specs.Term.Arguments.{one, more}
use Rattle.terms.specs.Term.Token.{sign}
use Rattle.terms.specs.Language.{Short, KindShort, Fits, ArgumentsFit}
use Rattle.terms.specs.Machine.{Role, State, is_digit, behind_term, behind_head, behind_number, first_digit}
use Rattle.terms.specs.Machine.{next_digit, step, run, digits_left, end_of_head, end_of}
use Rattle.terms.specs.Machine.Role.{of_joint, of_kind, of_link}
use Rattle.terms.specs.Machine.Phase.{awaiting, number, digits, closed}
use Rattle.terms.specs.Machine.State.{live}
use Rattle.terms.proofs.Numbers.{digits_of}
use Rattle.terms.proofs.Numbers.Digits.{single, double, triple}

pub text_append : (x y : List Token) → text_of (x ++ y) ≡ text_of x ++ text_of y
unfolding text_of
text_append [] y = refl
text_append (k ∷ x) y = rw (text_append x y, append_assoc)

pub bracketed_text : (j : ℕ) (s : Written) (args : Arguments) →
    term_text (bracketed j s args) ≡ text_of (head_tokens j s) ++ opening ∷ (text_of (argument_tokens args) ++ closing ∷ [])
unfolding text_of term_tokens
bracketed_text j s args =
    text_append (head_tokens j s ++ sign opening ∷ argument_tokens args) (sign closing ∷ [])
    ∙ ap (λ (x : List ℕ). x ++ closing ∷ []) (text_append (head_tokens j s) (sign opening ∷ argument_tokens args))
    ∙ append_assoc (text_of (head_tokens j s)) (opening ∷ text_of (argument_tokens args)) (closing ∷ [])

-- the first of several arguments, the others, and what comes behind them all
pub more_text : (l : ℕ) (t : Term) (args : Arguments) (rest : List ℕ) →
    text_of (argument_tokens (more l t args)) ++ rest ≡ text_of (link_tokens l ++ term_tokens t) ++ comma ∷ (text_of (argument_tokens args) ++ rest)
unfolding text_of term_tokens
more_text l t args rest =
    ap (λ (x : List ℕ). x ++ rest) (text_append (link_tokens l ++ term_tokens t) (sign comma ∷ argument_tokens args))
    ∙ append_assoc (text_of (link_tokens l ++ term_tokens t)) (comma ∷ text_of (argument_tokens args)) rest

pub run_append : (s : State) (x y : List ℕ) → run s (x ++ y) ≡ run (run s x) y
unfolding run
run_append s [] y = refl
run_append s (b ∷ x) y = run_append (step s b) x y

run_from : {s u : State} (rest : List ℕ) → s ≡ u → run s rest ≡ run u rest
run_from rest e = ap (λ (s : State). run s rest) e

pub digit_is : (d : ℕ) → d < 10 → is_digit (digit d) ≡ true
digit_is d h = rw (le-leb 48 (48 + d) (omega arith), le-leb (48 + d) 57 (omega arith))

first_digit_lem : (role : Role) (around d : ℕ) → 0 < d → d < 10 → step (live around (number role)) (digit d) ≡ live around (digits role 2)
unfolding step first_digit
first_digit_lem role around d p h = rw (ne_eqb (48 + d) 48 (omega arith), digit_is d h)

next_digit_lem : (role : Role) (left around d : ℕ) → d < 10 → step (live around (digits role (suc left))) (digit d) ≡ live around (digits role left)
unfolding step next_digit
next_digit_lem role left around d h = rw (digit_is d h)

module _ (role : Role) (around x : ℕ) where
  run_single : x < 10 → run (live around (number role)) (digit x ∷ []) ≡ live around (digits role (digits_left x))
  unfolding run step first_digit
  run_single h =
      by_cases (ℕ_discrete x 0)
      (λ e. rw e)
      (λ d. rw (first_digit_lem role around x (omega arith) h, ne_eqb x 0 d, lt-ltb x 10 h))

  run_double : (a b : ℕ) → 0 < a → a < 10 → b < 10 → x ≡ 10 * a + b →
      run (live around (number role)) (digit a ∷ digit b ∷ []) ≡ live around (digits role (digits_left x))
  unfolding run
  run_double a b p h g e =
      rw (first_digit_lem role around a p h, next_digit_lem role 1 around b g)
      (rw (ne_eqb x 0 (omega arith), le-ltb x 10 (omega arith), lt-ltb x 100 (omega arith)))

  run_triple : (a b c : ℕ) → 0 < a → a < 10 → b < 10 → c < 10 → x ≡ 10 * (10 * a + b) + c →
      run (live around (number role)) (digit a ∷ digit b ∷ digit c ∷ []) ≡ live around (digits role (digits_left x))
  unfolding run
  run_triple a b c p h g f e =
      rw (first_digit_lem role around a p h, next_digit_lem role 1 around b g, next_digit_lem role 0 around c f)
      (rw (ne_eqb x 0 (omega arith), le-ltb x 10 (omega arith), le-ltb x 100 (omega arith)))

pub run_number : (role : Role) (around x : ℕ) → x < 1000 → run (live around (number role)) (decimal x) ≡ live around (digits role (digits_left x))
run_number role around x h =
    elim (digits_of x h) [
      | single g e ↦ rw e (run_single role around x g)
      | double a b p g f q e ↦ rw e (run_double role around x a b p g f q)
      | triple a b c p g f i q e ↦ rw e (run_triple role around x a b c p g f i q)
    ]

-- behind a number, what is no digit is taken as what comes behind numbers
pub behind_number_lem : (role : Role) (left around b : ℕ) → is_digit b ≡ false → step (live around (digits role left)) b ≡ behind_number role around b
unfolding step next_digit
behind_number_lem role zero around b h = refl
behind_number_lem role (suc left) around b h = rw h

pub run_head : (j : ℕ) (s : Written) (around : ℕ) → Short j → KindShort s →
    run (live around awaiting) (text_of (head_tokens j s)) ≡ live around (end_of_head j s)
unfolding text_of run step behind_number
run_head j unwritten around h g = rw (append-nil, run_number of_joint around j h)
run_head j (written s) around h g =
    rw (run_append (live around (number of_joint)) (decimal j), run_number of_joint around j h, append-nil)
    (run_from (decimal s) (behind_number_lem of_joint (digits_left j) around colon refl) ∙ run_number of_kind around s g)

pub run_link : (l around : ℕ) → l < 1000 → run (live around (number of_link)) (text_of (link_tokens l)) ≡ live (suc around) awaiting
unfolding text_of run step behind_number
run_link l around h =
    rw (run_append, run_number of_link around l h)
    (rw (behind_number_lem of_link (digits_left l) around equals refl))

-- behind a joint number where no `:` stands, behind a kind number, and behind a head where no bracket opens
pub no_colon : (around b : ℕ) → b ≢ colon → behind_number of_joint around b ≡ behind_head around b
unfolding behind_number
no_colon around b d = rw (ne_eqb b colon d)

pub kind_behind : (around b : ℕ) → behind_number of_kind around b ≡ behind_head around b
unfolding behind_number
kind_behind around b = refl

pub no_bracket : (around b : ℕ) → b ≢ opening → behind_head around b ≡ behind_term around b
unfolding behind_head
no_bracket around b o = rw (ne_eqb b opening o)

-- arguments begin where there is one more level
pub goes_bracket : (around : ℕ) → around < 15 → behind_head around opening ≡ live around (number of_link)
unfolding behind_head
goes_bracket around h = rw (lt-ltb around 15 h)

-- behind the head of a term
behind_head_lem : (j : ℕ) (s : Written) (around b : ℕ) → is_digit b ≡ false → b ≢ colon → step (live around (end_of_head j s)) b ≡ behind_head around b
behind_head_lem j unwritten around b h d = behind_number_lem of_joint (digits_left j) around b h ∙ no_colon around b d
behind_head_lem j (written s) around b h d = behind_number_lem of_kind (digits_left s) around b h ∙ kind_behind around b

-- behind a term, each of `,` and `)` and the end is taken as behind a bracket
pub ended : (t : Term) (around b : ℕ) → is_digit b ≡ false → b ≢ colon → b ≢ opening → step (live around (end_of t)) b ≡ behind_term around b
unfolding step
ended (bare j s) around b h d o = behind_head_lem j s around b h d ∙ no_bracket around b o
ended (bracketed j s args) around b h d o = refl

-- what fits takes a level at least
some_level : (t : Term) (levels : ℕ) → Fits t levels → 0 < levels
some_level (bare j s) zero h = absurd h
some_level (bare j s) (suc levels) h = omega arith
some_level (bracketed j s args) zero h = absurd h
some_level (bracketed j s args) (suc levels) h = omega arith

some_level_below : (args : Arguments) (levels : ℕ) → ArgumentsFit args levels → 0 < levels
some_level_below (one l t) levels h = some_level t levels h.1
some_level_below (more l t args) levels h = some_level t levels h.1

opened : (j : ℕ) (s : Written) (around : ℕ) → around < 15 → step (live around (end_of_head j s)) opening ≡ live around (number of_link)
opened j s around h = behind_head_lem j s around opening refl (omega arith) ∙ goes_bracket around h

-- a term inside another, and the sign behind it
module _ (t : Term) (around : ℕ) (reads : run (live (suc around) awaiting) (term_text t) ≡ live (suc around) (end_of t)) where
  run_argument : (l b : ℕ) (rest : List ℕ) → l < 1000 → is_digit b ≡ false → b ≢ colon → b ≢ opening →
      run (live around (number of_link)) (text_of (link_tokens l ++ term_tokens t) ++ b ∷ rest) ≡ run (behind_term (suc around) b) rest
  unfolding run
  run_argument l b rest h d c o =
      rw (run_append, text_append, run_append, run_link l around h, reads)
      (run_from rest (ended t (suc around) b d c o))

mutual
  unfolding run text_of term_tokens behind_term

  pub run_term : (t : Term) (around levels : ℕ) → around + levels ≤ 16 → Fits t levels →
      run (live around awaiting) (term_text t) ≡ live around (end_of t)
  run_term (bare j s) around zero h f = absurd f
  run_term (bare j s) around (suc levels) h f = run_head j s around f.0 f.1
  run_term (bracketed j s args) around zero h f = absurd f
  run_term (bracketed j s args) around (suc levels) h f =
      rw (bracketed_text j s args, run_append, run_head j s around f.0 f.1)
      (run_from (text_of (argument_tokens args) ++ closing ∷ []) (opened j s around (omega (arith, some_level_below args levels f.2)))
      ∙ run_arguments args around levels (omega arith) f.2)

  run_arguments : (args : Arguments) (around levels : ℕ) → suc around + levels ≤ 16 → ArgumentsFit args levels →
      run (live around (number of_link)) (text_of (argument_tokens args) ++ closing ∷ []) ≡ live around closed
  run_arguments (one l t) around levels h f =
      run_argument t around (run_term t (suc around) levels h f.1) l closing [] f.0 refl (omega arith) (omega arith)
  run_arguments (more l t args) around levels h f =
      let others : List ℕ = text_of (argument_tokens args) ++ closing ∷ [] in
      rw (more_text l t args (closing ∷ []))
      (run_argument t around (run_term t (suc around) levels h f.1) l comma others f.0 refl (omega arith) (omega arith)
      ∙ run_arguments args around levels h f.2)
