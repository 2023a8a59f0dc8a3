-- A machine that goes over a text byte by byte, and dies only where no text of the language goes on: `begun_live` in proofs/Language.antt. It
-- stands between the meaning of reply 20's place and the reader's code; no exported contract rests on it.
-- Assumes nothing.
use Rattle.std.specs.Prelude.{Bool, cond, ◌&&◌, List, [], ◌∷◌, ℕ, zero, suc, eqb, leb, ltb, get_or}
use Rattle.decimals.specs.Decimal.{digit}
use Rattle.terms.specs.Term.{Written, Term, at_sign, colon, opening, closing, comma, equals, greater}
use Rattle.terms.specs.Term.Written.{unwritten, written}
use Rattle.terms.specs.Term.Term.{bare, bracketed}

-- a number of a joint, a kind or a link
pub data Role : Type 0 where
  of_joint : Role
  of_kind : Role
  of_link : Role

-- what comes next
pub data Phase : Type 0 where
  -- a term
  awaiting : Phase
  -- the first digit of a number
  number : Role → Phase
  -- so many digits at most, then what comes behind the number
  digits : Role → ℕ → Phase
  -- the `>` of `=>`
  arrow : Phase
  -- what comes behind a term that ends in a bracket
  closed : Phase

-- inside a term that so many terms are around; behind a whole text; or dead
pub data State : Type 0 where
  live : ℕ → Phase → State
  over : State
  dead : State

-- the end of a text, as a byte that is none
abbrev pub end : ℕ
end = 256

-- the byte at p, or the end
abbrev pub here : List ℕ → ℕ → ℕ
here text p = get_or text p end

abbrev pub is_digit : ℕ → Bool
is_digit b = leb (digit 0) b && leb b (digit 9)

-- behind a term: the next argument, the bracket that closes those of the term around, or the end
unfoldable pub behind_term : ℕ → ℕ → State
behind_term zero b = cond (eqb b end) over dead
behind_term (suc around) b = cond (eqb b comma) (live around (number of_link)) (cond (eqb b closing) (live around closed) dead)

-- behind the head of a term: arguments, which want one more level, or what comes behind the term
unfoldable pub behind_head : ℕ → ℕ → State
behind_head around b = cond (eqb b opening) (cond (ltb around 15) (live around (number of_link)) dead) (behind_term around b)

unfoldable pub behind_number : Role → ℕ → ℕ → State
behind_number of_joint around b = cond (eqb b colon) (live around (number of_kind)) (behind_head around b)
behind_number of_kind around b = behind_head around b
behind_number of_link around b = cond (eqb b equals) (live around arrow) dead

-- a number that begins with 0 has no further digit, another at most two
unfoldable pub first_digit : Role → ℕ → ℕ → State
first_digit role around b = cond (eqb b (digit 0)) (live around (digits role 0)) (cond (is_digit b) (live around (digits role 2)) dead)

unfoldable pub next_digit : Role → ℕ → ℕ → ℕ → State
next_digit role zero around b = behind_number role around b
next_digit role (suc left) around b = cond (is_digit b) (live around (digits role left)) (behind_number role around b)

unfoldable pub step : State → ℕ → State
step (live around awaiting) b = cond (eqb b at_sign) (live around (number of_joint)) dead
step (live around (number role)) b = first_digit role around b
step (live around (digits role left)) b = next_digit role left around b
step (live around arrow) b = cond (eqb b greater) (live (suc around) awaiting) dead
step (live around closed) b = behind_term around b
step over b = dead
step dead b = dead

unfoldable pub run : State → List ℕ → State
run s [] = s
run s (b ∷ bs) = run (step s b) bs

abbrev pub start : State
start = live 0 awaiting

-- how many digits may still follow those of a number
abbrev pub digits_left : ℕ → ℕ
digits_left x = cond (eqb x 0) 0 (cond (ltb x 10) 2 (cond (ltb x 100) 1 0))

-- where the machine is behind the text of a term
abbrev pub end_of_head : ℕ → Written → Phase
end_of_head j unwritten = digits of_joint (digits_left j)
end_of_head j (written s) = digits of_kind (digits_left s)

abbrev pub end_of : Term → Phase
end_of (bare j s) = end_of_head j s
end_of (bracketed j s args) = closed
