-- Rigs typed as terms: what a term is, and its text.
-- Assumes nothing.
use Rattle.std.specs.Prelude.{List, [], ◌∷◌, ◌++◌, ℕ}
use Rattle.decimals.specs.Decimal.{decimal}

-- the kind number of a term, if one is written
pub data Written : Type 0 where
  unwritten : Written
  written : ℕ → Written

mutual
  -- a joint number, a kind number if one is written, and arguments in brackets if there are any
  pub data Term : Type 0 where
    bare : ℕ → Written → Term
    bracketed : ℕ → Written → Arguments → Term

  -- one or more; an argument is a link number and a term
  pub data Arguments : Type 0 where
    one : ℕ → Term → Arguments
    more : ℕ → Term → Arguments → Arguments

-- what a text is made of: signs, and the numbers of joints, kinds and links
pub data Token : Type 0 where
  sign : ℕ → Token
  joint : ℕ → Token
  kind : ℕ → Token
  link : ℕ → Token

-- the signs `@` `:` `(` `)` `,` `=` `>`, in ASCII
abbrev pub at_sign : ℕ
at_sign = 64

abbrev pub colon : ℕ
colon = 58

abbrev pub opening : ℕ
opening = 40

abbrev pub closing : ℕ
closing = 41

abbrev pub comma : ℕ
comma = 44

abbrev pub equals : ℕ
equals = 61

abbrev pub greater : ℕ
greater = 62

-- optionally `:` and a kind number
abbrev pub kind_tokens : Written → List Token
kind_tokens unwritten = []
kind_tokens (written s) = sign colon ∷ kind s ∷ []

-- `@`, a joint number, optionally `:` and a kind number
abbrev pub head_tokens : ℕ → Written → List Token
head_tokens j s = sign at_sign ∷ joint j ∷ kind_tokens s

-- a link number and `=>`
abbrev pub link_tokens : ℕ → List Token
link_tokens l = link l ∷ sign equals ∷ sign greater ∷ []

unfoldable mutual
  -- a term has its arguments in round brackets
  pub term_tokens : Term → List Token
  term_tokens (bare j s) = head_tokens j s
  term_tokens (bracketed j s args) = head_tokens j s ++ sign opening ∷ argument_tokens args ++ sign closing ∷ []

  -- arguments are joined by commas; an argument is a link number, `=>`, and a term
  pub argument_tokens : Arguments → List Token
  argument_tokens (one l t) = link_tokens l ++ term_tokens t
  argument_tokens (more l t args) = link_tokens l ++ term_tokens t ++ sign comma ∷ argument_tokens args

-- numbers are decimal
abbrev pub spell : Token → List ℕ
spell (sign b) = b ∷ []
spell (joint j) = decimal j
spell (kind s) = decimal s
spell (link l) = decimal l

unfoldable pub text_of : List Token → List ℕ
text_of [] = []
text_of (k ∷ ks) = spell k ++ text_of ks

-- the text of a term
abbrev pub term_text : Term → List ℕ
term_text t = text_of (term_tokens t)
