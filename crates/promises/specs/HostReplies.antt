-- Replies as the host reads them: the number, place and third number of a reply, how they stand in the one number that the host gets, and
-- the numbers listed for each call, with 0 for done.
-- Assumes nothing.
use Rattle.std.specs.Prelude.{◌≡◌, Bool, false, ◌||◌, List, [], ◌∷◌, ℕ, ◌/◌, ◌%◌, ◌^◌, eqb}
use Rattle.replies.specs.Replies.{number, place, third, Reply}

-- the reply has this number, this place and this third number
pub record Reads (r : Reply) (n p t : ℕ) : Type 0 where
  pub number_is : number r ≡ n
  pub place_is : place r ≡ p
  pub third_is : third r ≡ t

-- the host's number x, taken apart the other way round from "number + 256 × third + 2^32 × place", reads as the reply does
abbrev pub Splits : ℕ → Reply → Type 0
Splits x r = Reads r (x % 256) (x / 2 ^ 32) (x / 256 % 2 ^ 24)

unfoldable pub listed : List ℕ → ℕ → Bool
listed [] x = false
listed (y ∷ ys) x = eqb x y || listed ys x

-- the reply has one of these numbers
abbrev pub gives : List ℕ → Reply → Bool
gives numbers r = listed numbers (number r)

abbrev pub open_numbers : List ℕ
open_numbers = 0 ∷ 1 ∷ 2 ∷ 3 ∷ []

abbrev pub take_numbers : List ℕ
take_numbers = 0 ∷ 1 ∷ 4 ∷ 5 ∷ 6 ∷ 7 ∷ 8 ∷ 9 ∷ 11 ∷ []

abbrev pub ask_numbers : List ℕ
ask_numbers = 0 ∷ 1 ∷ 4 ∷ 5 ∷ 6 ∷ 7 ∷ 8 ∷ 9 ∷ 10 ∷ []

abbrev pub write_numbers : List ℕ
write_numbers = 0 ∷ 1 ∷ 4 ∷ 12 ∷ []

abbrev pub read_term_numbers : List ℕ
read_term_numbers = 0 ∷ 1 ∷ 4 ∷ 20 ∷ 21 ∷ 22 ∷ 12 ∷ []

abbrev pub write_term_numbers : List ℕ
write_term_numbers = 0 ∷ 1 ∷ 4 ∷ 21 ∷ 23 ∷ 12 ∷ []

-- of the call that hands out the house table
abbrev pub house_numbers : List ℕ
house_numbers = 0 ∷ 1 ∷ []
