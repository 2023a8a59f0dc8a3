-- A run made of a function, and what the tests of a run of bytes and of a range of numbers answer.
-- Assumes nothing.
use Rattle.std.specs.Prelude.{Bool, true, ◌&&◌, List, [], ◌∷◌, ℕ, zero, suc, eqb, leb}

-- every byte is zero
unfoldable pub all_zero : List ℕ → Bool
all_zero [] = true
all_zero (x ∷ xs) = eqb x 0 && all_zero xs

-- f at i, i + 1, .., count of them
unfoldable pub each : {A : Type 0} → (ℕ → A) → ℕ → ℕ → List A
each f i zero = []
each f i (suc count) = f i ∷ each f (suc i) count

-- x is from low to high
abbrev pub within : ℕ → ℕ → ℕ → Bool
within low high x = leb low x && leb x high
