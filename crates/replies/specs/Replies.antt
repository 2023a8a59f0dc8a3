-- The table 'Replies': number, place and third number of each reply, the one number that the host gets, and which refusal is told where
-- several fit.
-- Assumes nothing.
use Rattle.std.specs.Prelude.{Bool, true, false, cond, List, [], ◌∷◌, ℕ, ◌+◌, ◌*◌, ◌^◌, Result, Ok, Err}
use Rattle.replies.specs.declared.Cause.{Cause}
use Rattle.replies.specs.declared.Cause.TheVariants.{BadSize, NoKind, LawBroken, BadBlock, BadLength, BadVersion, BadHeader, BadCount, BadPart, NotReached, Clash, ShortOutput, NoTerm, OutOfRange, TooManyFacts, NoTree}
use Rattle.replies.specs.declared.Refusal.{Refusal}

-- done, with the third number; or refused
abbrev pub Reply : Type 0
Reply = Result ℕ Refusal

-- refused for this cause, at this place
abbrev pub refusal : Cause → ℕ → Reply
refusal c p = Err (record { 0 = c; 1 = p })

abbrev pub cause_number : Cause → ℕ
cause_number BadSize = 1
cause_number NoKind = 2
cause_number LawBroken = 3
cause_number BadBlock = 4
cause_number BadLength = 5
cause_number BadVersion = 6
cause_number BadHeader = 7
cause_number BadCount = 8
cause_number BadPart = 9
cause_number NotReached = 10
cause_number Clash = 11
cause_number ShortOutput = 12
cause_number NoTerm = 20
cause_number OutOfRange = 21
cause_number TooManyFacts = 22
cause_number NoTree = 23

abbrev pub number : Reply → ℕ
number (Ok t) = 0
number (Err r) = cause_number r.0

abbrev pub place : Reply → ℕ
place (Ok t) = 0
place (Err r) = r.1

-- a refusal has third 0
abbrev pub third : Reply → ℕ
third (Ok t) = t
third (Err r) = 0

abbrev pub packed : Reply → ℕ
packed r = number r + 256 * third r + 2 ^ 32 * place r

abbrev pub refuses : Reply → Bool
refuses (Ok t) = false
refuses (Err r) = true

-- refused for this cause at this place, unless the test passes
abbrev pub unless : Bool → Cause → ℕ → Reply
unless passes cause at = cond passes (Ok 0) (refusal cause at)

-- the first refusal of the list, in this order; where none of it refuses, the reply beside it
unfoldable pub first_refusal : List Reply → Reply → Reply
first_refusal [] last = last
first_refusal (r ∷ rs) last = cond (refuses r) r (first_refusal rs last)
