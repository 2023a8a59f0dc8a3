-- When a form is a tree from a chosen joint, told by walks along its links, and the term of that tree.
-- Assumes nothing.
use Rattle.std.specs.Prelude.{◌≡◌, ◌≢◌, cond, List, [], ◌∷◌, ℕ, zero, suc, ◌<◌, eqb, length}
use Rattle.meaning.specs.Form.{Form, unknown}
use Rattle.terms.specs.Term.{Written, Term, Arguments}
use Rattle.terms.specs.Term.Written.{unwritten, written}
use Rattle.terms.specs.Term.Term.{bare, bracketed}
use Rattle.terms.specs.Term.Arguments.{one, more}
use Rattle.terms.specs.Language.{deepest}

-- from joint a the links of the list, one after the other, lead to joint c
abbrev pub Walk : Form → ℕ → List ℕ → ℕ → Type 0
Walk S a [] c = a ≡ c
Walk S a (l ∷ ls) c = (l < 16) × (S.link a l ≢ unknown) × Walk S (S.link a l) ls c

-- a joint with a kind but 1, a link or a link to it
pub data Concerned (v : ℕ) (S : Form) (j : ℕ) : Type 0 where
  kind_known : S.kind j ≢ 1 → Concerned v S j
  link_known : (l : ℕ) → l < 16 → S.link j l ≢ unknown → Concerned v S j
  led_to : (i l : ℕ) → i < v → l < 16 → S.link i l ≡ j → Concerned v S j

-- j is reached from the root by exactly one walk, at most 16 terms deep: the root's own term is the first
pub record OneWalk (S : Form) (root j : ℕ) : Type 0 where
  pub walk : List ℕ
  pub leads : Walk S root walk j
  pub short : length walk < deepest
  pub only : (other : List ℕ) → Walk S root other j → other ≡ walk

-- no joints are joined, no link leads to the root, and every other joint with a kind but 1, a link or a link to it is reached from the
-- root by exactly one walk, at most 16 terms deep
pub record TreeFrom (v : ℕ) (S : Form) (root : ℕ) : Type 0 where
  pub apart : (j : ℕ) → j < v → S.class j ≡ j
  pub unled : (j l : ℕ) → j < v → l < 16 → S.link j l ≢ root
  pub reached : (j : ℕ) → j < v → j ≢ root → Concerned v S j → OneWalk S root j

-- kinds but 1 are written
abbrev pub kind_written : ℕ → Written
kind_written s = cond (eqb s 1) unwritten (written s)

-- links and the terms where they lead, as arguments; and the term that has these, or none
abbrev pub listed : ℕ → Term → List (ℕ × Term) → Arguments
listed l t [] = one l t
listed l t (next ∷ others) = more l t (listed next.0 next.1 others)

abbrev pub term_with : ℕ → Written → List (ℕ × Term) → Term
term_with j s [] = bare j s
term_with j s (first ∷ others) = bracketed j s (listed first.0 first.1 others)

-- the known links of joint j from link l on, of the next count, rising, each with the term of the joint where it leads
unfoldable pub link_terms : Form → (ℕ → Term) → ℕ → ℕ → ℕ → List (ℕ × Term)
link_terms S term_of j l zero = []
link_terms S term_of j l (suc count) =
    cond (eqb (S.link j l) unknown) (link_terms S term_of j (suc l) count) ((l, term_of (S.link j l)) ∷ link_terms S term_of j (suc l) count)

-- the term of joint j, with at most so many levels of terms below its own. Below the root of a tree there are at most 15, so that nothing is cut
-- at 16: `tree_whole` in proofs/TreeFacts.antt
unfoldable pub term_from : Form → ℕ → ℕ → Term
term_from S zero j = bare j (kind_written (S.kind j))
term_from S (suc depth) j = term_with j (kind_written (S.kind j)) (link_terms S (λ c. term_from S depth c) j 0 16)
