-- What the term of a written text is like: no kind in it is 1, and its links rise. That no other kind is left out is said by `kind_written` (Tree.antt)
-- and by the trip there and back.
-- Assumes nothing.
use Rattle.std.specs.Prelude.{◌≢◌, ℕ, suc, ◌≤◌}
use Rattle.terms.specs.Term.{Written, Term, Arguments}
use Rattle.terms.specs.Term.Written.{unwritten, written}
use Rattle.terms.specs.Term.Term.{bare, bracketed}
use Rattle.terms.specs.Term.Arguments.{one, more}

-- a kind that is written is not 1
abbrev pub KindBut1 : Written → Type 0
KindBut1 unwritten = Unit {0}
KindBut1 (written s) = s ≢ 1

abbrev mutual
  pub Rising : Term → Type 0
  Rising (bare j s) = KindBut1 s
  Rising (bracketed j s args) = KindBut1 s × LinksRise args 0

  -- from link `low` on, each link is above the one before
  pub LinksRise : Arguments → ℕ → Type 0
  LinksRise (one l t) low = (low ≤ l) × Rising t
  LinksRise (more l t args) low = (low ≤ l) × Rising t × LinksRise args (suc l)
