-- One line a call: a word, then number, place, third. Each number stands in decimal behind a blank, and a line feed ends the line.
-- Assumes nothing.
use Rattle.std.specs.Prelude.{List, [], ◌∷◌, ◌++◌, ℕ, ◌+◌, ◌-◌, length, replicate, take}
use Rattle.std.proofs.lemmas.List.Edits.{sets}
use Rattle.replies.specs.Replies.{number, place, third, Reply}
use Rattle.decimals.specs.Decimal.{decimal}
use Rattle.lines.specs.declared.Line.{Line}

-- in ASCII
abbrev pub blank : ℕ
blank = 32

abbrev pub line_feed : ℕ
line_feed = 10

unfoldable pub line : List ℕ → ℕ → ℕ → ℕ → List ℕ
line word number place third =
    word ++ (blank ∷ decimal number) ++ (blank ∷ decimal place) ++ (blank ∷ decimal third) ++ (line_feed ∷ [])

-- the line of a reply
abbrev pub line_of : List ℕ → Reply → List ℕ
line_of word r = line word (number r) (place r) (third r)

abbrev pub longest_word : ℕ
longest_word = 6

-- the bytes of a `Line`: enough for a word, three numbers with their blanks, and the line feed
abbrev pub room : ℕ
room = 40

-- the text, then zeros
abbrev pub holding : List ℕ → Line
holding text = record { bytes = text ++ replicate (room - length text) 0; size = length text }

-- the text of a line
abbrev pub text_of : Line → List ℕ
text_of l = take l.size l.bytes

-- a line with bytes put behind its text
abbrev pub put : Line → List ℕ → Line
put l bytes = record { bytes = sets l.bytes l.size bytes; size = l.size + length bytes }
