-- Numbers in decimal.
-- Assumes nothing.
use Rattle.std.specs.Prelude.{cond, List, [], ◌∷◌, ◌++◌, ℕ, zero, suc, ◌+◌, ◌/◌, ◌%◌, ltb}

-- in ASCII
abbrev pub digit : ℕ → ℕ
digit d = 48 + d

-- the digits of a number that has at most `most` of them: those of a tenth of it, then its last
unfoldable pub digits : ℕ → ℕ → List ℕ
digits zero x = []
digits (suc most) x = cond (ltb x 10) (digit x ∷ []) (digits most (x / 10) ++ (digit (x % 10) ∷ []))

-- a number below 2^32 has at most ten
abbrev pub longest_number : ℕ
longest_number = 10

-- a number below 10^10 in decimal; read back it is the number, and no zero leads: `reads_back`, `no_leading_zero` in proofs/Decimals.antt
abbrev pub decimal : ℕ → List ℕ
decimal x = digits longest_number x
