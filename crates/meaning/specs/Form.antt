-- Solved forms of v joints, and their facts in the order in which they are written.
-- Assumes nothing.
use Rattle.std.specs.Prelude.{cond, List, [], ◌∷◌, ◌++◌, map, ℕ, zero, suc, ◌+◌, ◌*◌, eqb, get_or}
use Rattle.meaning.specs.declared.RigJoint.{RigJoint}
use Rattle.meaning.specs.Picture.{Fact, rename}
use Rattle.meaning.specs.Picture.Fact.{has_kind, same, leads}

-- for each joint the number of its class, its kind, and its 16 links
pub record Form : Type 0 where
  pub class : ℕ → ℕ
  pub kind : ℕ → ℕ
  pub link : ℕ → ℕ → ℕ

-- the form that lists of class numbers, kinds and links make, one row of 16 links for each joint
abbrev pub list_form : List ℕ → List ℕ → List ℕ → Form
list_form classes kinds links =
    record { class = λ j. get_or classes j 0; kind = λ j. get_or kinds j 0; link = λ j l. get_or links (j * 16 + l) 0 }

-- a link that is not known
abbrev pub unknown : ℕ
unknown = 255

-- the known links of joint j, from link l on, of the next count
unfoldable pub links_from : Form → ℕ → ℕ → ℕ → List (Fact ℕ)
links_from S j l zero = []
links_from S j l (suc count) =
    cond (eqb (S.link j l) unknown) (links_from S j (suc l) count) (leads j l (S.link j l) ∷ links_from S j (suc l) count)

-- if j isn't its class's smallest, "j is smallest"; otherwise its kind unless 1, then its known links in rising order
unfoldable pub facts_at : Form → ℕ → List (Fact ℕ)
facts_at S j =
    cond (eqb (S.class j) j)
    (cond (eqb (S.kind j) 1) (links_from S j 0 16) (has_kind j (S.kind j) ∷ links_from S j 0 16))
    (same j (S.class j) ∷ [])

unfoldable pub facts_from : Form → ℕ → ℕ → List (Fact ℕ)
facts_from S j zero = []
facts_from S j (suc count) = facts_at S j ++ facts_from S (suc j) count

-- the facts of a form, for each of its v joints in rising order
abbrev pub facts_of : ℕ → Form → List (Fact ℕ)
facts_of v S = facts_from S 0 v

-- how many of the joints below k are their class's smallest
unfoldable pub classes : Form → ℕ → ℕ
classes S zero = 0
classes S (suc k) = cond (eqb (S.class k) k) (suc (classes S k)) (classes S k)

abbrev pub rig_joint : ℕ → RigJoint
rig_joint j = record { 0 = j }

-- the taken facts of a form: those of its solved form, on the rig's joints
abbrev pub taken_facts : ℕ → Form → List (Fact RigJoint)
taken_facts v S = map (rename rig_joint) (facts_of v S)
