-- What the look at all facts at once computes: the four bytes of a fact as one number, and what is left when its limits are taken off. No
-- exported contract rests on this.
-- Assumes nothing.
use Rattle.std.specs.Prelude.{◌≡◌, cond, List, ℕ, ◌+◌, ◌-◌, ◌*◌, ◌%◌, ◌<◌, ◌≤◌, eqb}
use Rattle.std.specs.Int.Bits.{bit_and, bit_or}
use Rattle.packets.specs.Packet.{byte}

-- four bytes as one number, the first the lowest
abbrev pub four_bytes : ℕ → ℕ → ℕ → ℕ → ℕ
four_bytes t a x y = t + 256 * a + 65536 * x + 16777216 * y

-- the highest bit of each of four bytes
abbrev pub high_bits : ℕ
high_bits = 2155905152

-- the limits for a tag, put together of those of three tags, of which one is this or none
abbrev pub limits_for : ℕ → ℕ → ℕ → ℕ → ℕ
limits_for tag kind same link = bit_or (bit_or (cond (eqb tag 1) kind 0) (cond (eqb tag 2) same 0)) (cond (eqb tag 3) link 0)

-- the bits of a number as it is, and with the highest bit of each byte set and the limits taken off
abbrev pub gathered : ℕ → ℕ → ℕ → ℕ → ℕ
gathered word kind same link = bit_or word (bit_or word high_bits - limits_for (word % 256) kind same link)

-- limits that can be taken off a number whose bytes all have their highest bit
pub record Limits (kind same link : ℕ) : Type 0 where
  pub kinds : kind ≤ high_bits
  pub sames : same ≤ high_bits
  pub links : link ≤ high_bits

-- a number is the four bytes that stand at a place
pub record Word (p : List ℕ) (at word : ℕ) : Type 0 where
  pub is : word ≡ four_bytes (byte p at) (byte p (at + 1)) (byte p (at + 2)) (byte p (at + 3))
  pub first : byte p at < 256
  pub second : byte p (at + 1) < 256
  pub third : byte p (at + 2) < 256
  pub fourth : byte p (at + 3) < 256

-- no highest bit is among those of the fact at a place
pub record Clear (kind same link : ℕ) (p : List ℕ) (at : ℕ) : Type 0 where
  pub word : ℕ
  pub bytes : Word p at word
  pub none : bit_and (gathered word kind same link) high_bits ≡ 0
