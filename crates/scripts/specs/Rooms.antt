-- What a script's calls make of a room of 5,253 bytes, and the sum by which its bytes are told. Only the programs of examples rest on these.
-- Assumes nothing.
use Rattle.std.specs.Prelude.{◌<◌, ◌⊎◌, cond, List, ℕ, zero, suc, ◌+◌, ◌-◌, ◌*◌, ◌/◌, ◌%◌, eqb, ltb, get_or, set}
use Rattle.runs.specs.Runs.{each}
use Rattle.scripts.specs.declared.Bytes.{Bytes}

-- behind the last byte stands the first
abbrev pub byte_at : List ℕ → ℕ → ℕ
byte_at room at = get_or room (at % 5253) 0

abbrev pub with_byte : List ℕ → ℕ → ℕ → List ℕ
with_byte room at x = set room (at % 5253) (x % 256)

abbrev pub number_at : List ℕ → ℕ → ℕ
number_at room at = 256 * byte_at room at + byte_at room (at + 1)

-- a size or an offset that lies outside is 0
abbrev pub inside_of : ℕ → ℕ
inside_of size = cond (ltb 5252 size) 0 size

-- the first count bytes behind the offset that a call begins with, put there one by one
unfoldable pub put_first : List ℕ → List ℕ → ℕ → List ℕ
put_first from room zero = room
put_first from room (suc count) = with_byte (put_first from room count) (inside_of (number_at from 0 + count)) (byte_at from (count + 2))

abbrev pub put_bytes : List ℕ → Bytes → List ℕ
put_bytes room bytes = put_first bytes.room room (inside_of bytes.size - 2)

-- bytes of a call of which not all can be put: more than a room holds, or some that would stand outside
abbrev pub CannotPut : Bytes → Type 0
CannotPut bytes = (5252 < bytes.size) ⊎ ((2 < bytes.size) × (5255 < number_at bytes.room 0 + bytes.size))

-- the entry at p of the table of n kinds in which, beside 0 and 1, no kind is under another
abbrev pub flat_entry : ℕ → ℕ → ℕ
flat_entry p n =
    cond (eqb n 0) 0 (cond (eqb (p / n) (p % n)) (p / n) (cond (eqb (p / n) 1) (p % n) (cond (eqb (p % n) 1) (p / n) 0)))

abbrev pub flat_table : ℕ → List ℕ
flat_table n = each (λ p. flat_entry p n % 256) 0 5253

-- `k` is 107, `e` is 101
abbrev pub table_after : ℕ → List ℕ → Bytes → List ℕ
table_after letter table bytes =
    cond (eqb letter 107) (flat_table (number_at bytes.room 0)) (cond (eqb letter 101) (put_bytes table bytes) table)

abbrev pub summed : ℕ → ℕ → ℕ
summed sum x = (sum % 65521 * 31 + x) % 65521

unfoldable pub sum_of : List ℕ → ℕ → ℕ
sum_of room zero = 0
sum_of room (suc size) = summed (sum_of room size) (byte_at room size)
