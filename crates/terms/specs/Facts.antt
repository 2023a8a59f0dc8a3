-- What a term says: at each term its kind fact if written, then each argument's link fact followed by that inner term's facts.
-- Assumes nothing.
use Rattle.std.specs.Prelude.{List, [], ◌∷◌, ◌++◌, ℕ}
use Rattle.meaning.specs.Picture.{Fact}
use Rattle.meaning.specs.Picture.Fact.{has_kind, leads}
use Rattle.terms.specs.Term.{Written, Term, Arguments}
use Rattle.terms.specs.Term.Written.{unwritten, written}
use Rattle.terms.specs.Term.Term.{bare, bracketed}
use Rattle.terms.specs.Term.Arguments.{one, more}

-- the joint of a term
abbrev pub joint_of : Term → ℕ
joint_of (bare j s) = j
joint_of (bracketed j s args) = j

abbrev pub kind_facts : ℕ → Written → List (Fact ℕ)
kind_facts j unwritten = []
kind_facts j (written s) = has_kind j s ∷ []

unfoldable mutual
  pub term_facts : Term → List (Fact ℕ)
  term_facts (bare j s) = kind_facts j s
  term_facts (bracketed j s args) = kind_facts j s ++ argument_facts args j

  -- of the arguments of joint j
  pub argument_facts : Arguments → ℕ → List (Fact ℕ)
  argument_facts (one l t) j = leads j l (joint_of t) ∷ term_facts t
  argument_facts (more l t args) j = leads j l (joint_of t) ∷ term_facts t ++ argument_facts args j
