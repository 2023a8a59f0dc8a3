-- What a run makes of its input, byte for byte: a packet off its front, the lines of the packets, and those of a whole run.
-- Assumes nothing.
use Rattle.std.specs.Prelude.{◌≡◌, Bool, true, false, List, [], ◌∷◌, ◌++◌, ℕ, ◌+◌, ◌-◌, ◌≤◌, ◌<◌, length, take, drop, min, Option, None, Some}
use Rattle.std.specs.Io.KnownBytes.{Appends, Consumes, IsAtEnd}
use Rattle.blocks.specs.Layout.{block_size}
use Rattle.lines.specs.declared.Line.{Line}
use Rattle.lines.specs.Text.{text_of}
use Rattle.rigcheck.specs.declared.Step.{Step}
use Rattle.rigcheck.specs.declared.Step.TheVariants.{Packet}
use Rattle.rigcheck.specs.Lines.{step_of, goes_on, Turn, Opening}

-- what a turn writes: its line, if it has one
abbrev pub said : Option Line → List ℕ
said None = []
said (Some l) = text_of l

-- how a run goes on from the bytes xs that are left
abbrev pub step_at : List ℕ → Step
step_at xs = step_of (min 2 (length xs)) xs

-- how many bytes are left behind L
abbrev pub behind : List ℕ → ℕ
behind xs = length xs - 2

-- what reading up to `size` bytes did to a reader: the bytes that it gave, fewer only at the end
pub record ReadUpTo (size got : ℕ) (old new : Option (List ℕ)) (bytes : List ℕ) : Type 0 where
  pub within : got ≤ size
  pub taken : Consumes old new (take got bytes)
  pub short : got < size → IsAtEnd new

-- one turn on the bytes xs: the line is written, and a whole packet is gone from the input
pub record TurnOn (b xs : List ℕ) (more : Bool) (left held now : Option (List ℕ)) (after : List ℕ) : Type 0 where
  pub text : List ℕ
  pub turn : Turn b xs (step_at xs) (behind xs) text after
  pub wrote : Appends held now text
  pub goes : more ≡ goes_on (step_at xs) (behind xs)
  pub left_is : (size : ℕ) → step_at xs ≡ Packet size → size ≤ behind xs → left ≡ Some (drop (2 + size) xs)

-- the packets xs with a block b: the text of their lines, and the block afterwards
pub data Packets (after : List ℕ) : List ℕ → List ℕ → List ℕ → Type 0 where
  last :
      {b xs text : List ℕ} → Turn b xs (step_at xs) (behind xs) text after → goes_on (step_at xs) (behind xs) ≡ false → Packets after b xs text
  next :
      {b xs text : List ℕ} (size : ℕ) (first then more : List ℕ) → step_at xs ≡ Packet size → size ≤ behind xs
      → Turn b xs (step_at xs) (behind xs) first then → Packets after then (drop (2 + size) xs) more → text ≡ first ++ more → Packets after b xs text

-- a whole run on the input xs: V, then packets. It prints this text; the block b that is opened is any of its size
pub data Run (xs text : List ℕ) : Type 0 where
  no_input : xs ≡ [] → text ≡ [] → Run xs text
  refused : (v : ℕ) (rest b after : List ℕ) → xs ≡ v ∷ rest → length b ≡ block_size → Opening v b text true after → Run xs text
  opened :
      (v : ℕ) (rest b first then more after : List ℕ) → xs ≡ v ∷ rest → length b ≡ block_size → Opening v b first false then
      → Packets after then rest more → text ≡ first ++ more → Run xs text
