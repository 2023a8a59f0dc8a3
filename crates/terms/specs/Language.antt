-- Which texts are in the language, those of terms at most 16 deep with short numbers, and where a text stops being one.
-- Assumes nothing.
use Rattle.std.specs.Prelude.{◌≡◌, List, ◌++◌, ℕ, zero, suc, ◌<◌, ◌≤◌, length, take}
use Rattle.terms.specs.Term.{Written, Term, Arguments, term_text}
use Rattle.terms.specs.Term.Written.{unwritten, written}
use Rattle.terms.specs.Term.Term.{bare, bracketed}
use Rattle.terms.specs.Term.Arguments.{one, more}

-- a number of one to three digits
abbrev pub Short : ℕ → Type 0
Short x = x < 1000

abbrev pub KindShort : Written → Type 0
KindShort unwritten = Unit {0}
KindShort (written s) = Short s

abbrev mutual
  -- the numbers of a term have at most three digits, and it is at most so many terms deep
  pub Fits : Term → ℕ → Type 0
  Fits (bare j s) zero = ⊥
  Fits (bare j s) (suc depth) = Short j × KindShort s
  Fits (bracketed j s args) zero = ⊥
  Fits (bracketed j s args) (suc depth) = Short j × KindShort s × ArgumentsFit args depth

  pub ArgumentsFit : Arguments → ℕ → Type 0
  ArgumentsFit (one l t) depth = Short l × Fits t depth
  ArgumentsFit (more l t args) depth = Short l × Fits t depth × ArgumentsFit args depth

abbrev pub deepest : ℕ
deepest = 16

-- the text is that of the term t. It is of no other: `one_reading` in proofs/OneReading.antt
pub record Reading (text : List ℕ) (t : Term) : Type 0 where
  pub spelled : text ≡ term_text t
  pub fits : Fits t deepest

-- some text of the language begins so
pub record Begun (beginning : List ℕ) : Type 0 where
  pub t : Term
  pub rest : List ℕ
  pub fits : Fits t deepest
  pub begins : term_text t ≡ beginning ++ rest

-- the text is not in the language, and p is the length of the longest beginning of it that some text of the language begins with
pub record NoTerm (text : List ℕ) (p : ℕ) : Type 0 where
  pub unread : (t : Term) → Reading text t → ⊥
  pub inside : p ≤ length text
  pub begun : Begun (take p text)
  pub longest : (q : ℕ) → q ≤ length text → Begun (take q text) → q ≤ p
