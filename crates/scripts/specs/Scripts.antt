-- How a script is read, letter by letter: where one is in it, what is written of its text, and the bytes of a call. Only the programs of examples
-- rest on this.
-- Assumes nothing.
use Rattle.std.specs.Prelude.{◌≡◌, ◌≢◌, ◌<◌, ◌⊎◌, false, Bool, cond, not, ◌&&◌, ◌||◌, List, [], ◌∷◌, ℕ, zero, suc, ◌+◌, ◌-◌, ◌*◌, ◌%◌, eqb, ltb, replicate, Option, IfSome, MatchOption}
use Rattle.std.specs.Io.KnownBytes.{Consumes}
use Rattle.runs.specs.Runs.{within}
use Rattle.scripts.specs.Rooms.{byte_at, with_byte, inside_of}
use Rattle.scripts.specs.declared.Bytes.{Bytes}
use Rattle.scripts.specs.declared.Part.{Part}
use Rattle.scripts.specs.declared.Part.TheVariants.{InText, InComment, AtLetter, InBytes, AtSecondDigit, Called, Other}
use Rattle.scripts.specs.declared.Script.{Script}

-- the signs of a script, and the first digit and the first letter of hex numbers
abbrev pub line_end : ℕ
line_end = 10

abbrev pub blank : ℕ
blank = 32

abbrev pub hash : ℕ
hash = 35

abbrev pub star : ℕ
star = 42

abbrev pub opening : ℕ
opening = 91

abbrev pub closing : ℕ
closing = 93

abbrev pub zero_digit : ℕ
zero_digit = 48

abbrev pub letter_a : ℕ
letter_a = 65

-- the part that a number stands for; behind the first digit of a byte, that digit is 0
abbrev pub part_of : ℕ → Part
part_of n =
    cond (eqb n 0) InText (cond (eqb n 1) InComment (cond (eqb n 2) AtLetter (cond (eqb n 3) InBytes (cond (eqb n 4) (AtSecondDigit 0) (cond (eqb n 5) Called (Other n))))))

abbrev pub no_bytes : Bytes
no_bytes = record { room = replicate 5253 0; size = 0 }

abbrev pub begun_script : Script
begun_script = record { part = InText; letter = 0; bytes = no_bytes }

-- a letter that begins neither a comment nor a call
abbrev pub is_plain : ℕ → Bool
is_plain c = not (eqb c hash) && not (eqb c opening)

-- what is written as it stands: such a letter outside of comments and calls
abbrev pub is_text : Part → ℕ → Bool
is_text InText c = is_plain c
is_text InComment c = false
is_text AtLetter c = false
is_text InBytes c = false
is_text (AtSecondDigit first) c = false
is_text Called c = is_plain c
is_text (Other n) c = false

-- where one is behind a letter outside of calls and comments
abbrev pub begun_after : ℕ → Part
begun_after c = cond (eqb c hash) InComment (cond (eqb c opening) AtLetter InText)

-- where one is behind a letter outside of calls
abbrev pub text_after : Part → ℕ → Part
text_after InComment c = cond (eqb c line_end) InText InComment
text_after InText c = begun_after c
text_after AtLetter c = begun_after c
text_after InBytes c = begun_after c
text_after (AtSecondDigit first) c = begun_after c
text_after Called c = begun_after c
text_after (Other n) c = begun_after c

abbrev pub digit_of : ℕ → ℕ
digit_of c = cond (within zero_digit 57 c) (c - zero_digit) (cond (within letter_a 70 c) (c - letter_a + 10) 0)

-- a letter that is no hex digit
abbrev pub NoDigit : ℕ → Type 0
NoDigit c = (within zero_digit 57 c ≡ false) × (within letter_a 70 c ≡ false)

abbrev pub with_digits : Bytes → ℕ → ℕ → Bytes
with_digits bytes first second =
    record { room = with_byte bytes.room (inside_of bytes.size) (16 * first + second); size = inside_of bytes.size + 1 }

-- so many bytes behind the fact at base, each the one four before it and its step, which stood behind the fact
unfoldable pub repeated_facts : List ℕ → ℕ → ℕ → List ℕ
repeated_facts room base zero = room
repeated_facts room base (suc k) =
    with_byte (repeated_facts room base k) (base + (k + 4)) (byte_at (repeated_facts room base k) (base + k) + byte_at room (base + 4 + (k + 4) % 4))

-- a fact, its step and a number, the last nine bytes, made so many facts
abbrev pub facts_at : List ℕ → ℕ → ℕ → Bytes
facts_at room base count = record { room = repeated_facts room base (4 * count - 4); size = base + 4 * count }

abbrev pub with_repeats : Bytes → Bytes
with_repeats bytes =
    cond (ltb (inside_of bytes.size) 9) bytes
    (facts_at bytes.room (inside_of bytes.size - 9) (byte_at bytes.room (inside_of bytes.size - 9 + 8)))

abbrev pub call_after : Script → ℕ → Script
call_after script c =
    cond (eqb c blank || eqb c line_end) script
    (cond (eqb c closing) (record { part = Called; letter = script.letter; bytes = script.bytes })
    (cond (eqb c star) (record { part = InBytes; letter = script.letter; bytes = with_repeats script.bytes })
    (record { part = AtSecondDigit (digit_of c); letter = script.letter; bytes = script.bytes })))

-- the script behind a letter, by where one was
abbrev pub after_part : Part → Script → ℕ → Script
after_part AtLetter script c = record { part = InBytes; letter = c; bytes = no_bytes }
after_part InBytes script c = call_after script c
after_part (AtSecondDigit first) script c = record { part = InBytes; letter = script.letter; bytes = with_digits script.bytes first (digit_of c) }
after_part InText script c = record { part = text_after InText c; letter = script.letter; bytes = script.bytes }
after_part InComment script c = record { part = text_after InComment c; letter = script.letter; bytes = script.bytes }
after_part Called script c = record { part = text_after Called c; letter = script.letter; bytes = script.bytes }
after_part (Other n) script c = record { part = text_after (Other n) c; letter = script.letter; bytes = script.bytes }

abbrev pub script_after : Script → ℕ → Script
script_after script c = after_part script.part script c

-- bytes that cannot be repeated: too few for a fact, its step and a number, or more than a room holds
abbrev pub CannotRepeat : Bytes → Type 0
CannotRepeat bytes = (5252 < bytes.size) ⊎ (bytes.size < 9)

-- a letter that is not understood among the bytes of a call
abbrev pub IsFault : Script → ℕ → Type 0
IsFault script c =
    ((c ≡ star) × CannotRepeat script.bytes) ⊎ ((c ≢ star) × (c ≢ blank) × (c ≢ line_end) × (c ≢ closing) × NoDigit c)

-- the letters of a script on the input xs: its bytes up to one that is zero, at most so many
unfoldable pub letters_of : ℕ → List ℕ → List ℕ
letters_of zero xs = []
letters_of (suc most) [] = []
letters_of (suc most) (c ∷ xs) = cond (eqb c 0) [] (c ∷ letters_of most xs)

-- what reading a letter did to a reader: it gave the next byte, or none where no letter is left
abbrev pub NextLetter : Option ℕ → Option (List ℕ) → Option (List ℕ) → Type 0
NextLetter letter old new = IfSome old (λ xs. MatchOption letter (letters_of 1 xs ≡ []) (λ c. (c ≢ 0) × Consumes old new (c ∷ [])))

-- one letter is read, and where it ends a call, the call is answered; `answers` says what an answer makes of what it has at hand
pub record Turn {A : Type 0} (answers : A → Script → A → Type 0) (before : Script × A) (c : ℕ) (behind : Script × A) : Type 0 where
  pub read : behind.0 ≡ script_after before.0 c
  pub answered : behind.0.part ≡ Called → answers before.1 behind.0 behind.1
  pub kept : behind.0.part ≢ Called → behind.1 ≡ before.1
