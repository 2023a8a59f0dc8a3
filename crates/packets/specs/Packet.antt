-- 'Packets': the parts of a packet. Byte 2 is the version, byte 3 the purpose.
-- Assumes nothing.
use Rattle.std.specs.Prelude.{List, ℕ, ◌+◌, ◌-◌, ◌*◌, ◌/◌, get_or}

abbrev pub byte : List ℕ → ℕ → ℕ
byte p i = get_or p i 0

-- L, big-endian: the number of bytes after the first two
abbrev pub L : List ℕ → ℕ
L p = 256 * byte p 0 + byte p 1

-- k, the number of ties
abbrev pub ties : List ℕ → ℕ
ties p = byte p 4

-- the joint count
abbrev pub joints : List ℕ → ℕ
joints p = byte p 5

-- ties stand from byte 6 on, two bytes each, and facts behind them, four bytes each
abbrev pub tie_at : ℕ → ℕ
tie_at i = 6 + 2 * i

abbrev pub fact_at : List ℕ → ℕ → ℕ
fact_at p i = 6 + 2 * ties p + 4 * i

-- f, where L = 4 + 2k + 4f for some f
abbrev pub fact_count : List ℕ → ℕ
fact_count p = (L p - (4 + 2 * ties p)) / 4
