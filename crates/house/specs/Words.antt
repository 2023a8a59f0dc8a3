-- What the comparison with the house table by eight bytes at once computes. No exported contract rests on this.
-- Assumes nothing.
use Rattle.std.specs.Prelude.{List, [], ◌∷◌, ◌++◌, ℕ}
use Rattle.std.specs.Int.{w64, to_le_bytes}

-- the bytes of words, eight each, the lowest first
unfoldable pub bytes_of : List ℕ → List ℕ
bytes_of [] = []
bytes_of (word ∷ words) = to_le_bytes w64 word ++ bytes_of words
