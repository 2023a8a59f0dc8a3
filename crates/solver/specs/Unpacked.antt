-- The unpacked solved form of the code as a form, and what taking facts makes of it.
-- Assumes nothing.
use Rattle.std.specs.Prelude.{◌≡◌, ◌⊎◌, Bool, true, false, Result, MatchResult, List, [], ◌∷◌, ℕ, ◌+◌, ◌*◌, ◌<◌, ◌≤◌, length, take}
use Rattle.kinds.specs.Kinds.{meet_at}
use Rattle.kinds.specs.Laws.{Lawful}
use Rattle.meaning.specs.declared.Fact.{Fact as CodeFact}
use Rattle.meaning.specs.Picture.{Fact}
use Rattle.meaning.specs.Decoding.{decoded}
use Rattle.meaning.specs.Form.{Form, list_form, unknown}
use Rattle.meaning.specs.Solving.{Well, Taken, Refuted}
use Rattle.solver.specs.declared.Solved.{Solved}

-- the form that the nodes and the rows make
abbrev pub form_of : Solved → List ℕ → Form
form_of s rows = list_form s.class s.kind rows

-- how many bytes the rows of 96 nodes have
abbrev pub rows_size : ℕ
rows_size = 1536

-- class numbers, kinds and rows of 96 nodes
pub record Lent (class kind rows : List ℕ) : Type 0 where
  pub class_size : length class ≡ 96
  pub kind_size : length kind ≡ 96
  pub rows_sized : length rows ≡ rows_size

-- no link leads to a node from `top` on; a zero of a node that has no row is read as a link, too
pub record Named (top : ℕ) (S : Form) : Type 0 where
  pub some : 0 < top
  pub below : (j l : ℕ) → l < 16 → (S.link j l ≡ unknown) ⊎ (S.link j l < top)

-- the fact that the code's enum stands for, on nodes
abbrev pub node_fact : CodeFact ℕ → Fact ℕ
node_fact f = decoded f

-- a lawful table of n kinds, and a well-formed form of v nodes
pub record Ready (n v : ℕ) (table : List ℕ) (S : Form) : Type 0 where
  pub two : 1 < n
  pub kinds : n ≤ 64
  pub size : length table ≡ n * n
  pub lawful : Lawful n (meet_at n table)
  pub nodes : v ≤ 96
  pub well : Well n v S

-- T is what S becomes when the facts are taken; or it is refused, and no picture satisfies S and the facts
abbrev pub Took :
    {A E : Type 0} (n : ℕ) (meet : ℕ → ℕ → ℕ) (v : ℕ) (S : Form) (fs : List (Fact ℕ)) → Result A E → (T : A → Form) → Type 0
Took n meet v S fs r T = MatchResult r (λ x. Taken n meet v S fs (T x)) (λ _. Refuted n meet v S fs)

-- T is what S becomes when the fact is taken, or S itself
pub record TookPlainly (n : ℕ) (meet : ℕ → ℕ → ℕ) (v : ℕ) (S : Form) (f : Fact ℕ) (yes : Bool) (T : Form) : Type 0 where
  pub taken : yes ≡ true → Taken n meet v S (f ∷ []) T
  pub kept : yes ≡ false → T ≡ S

-- the first `at` facts are taken by some form, and no picture satisfies S, these and the next one
pub record Stopped (n : ℕ) (meet : ℕ → ℕ → ℕ) (v : ℕ) (S : Form) (fs : List (Fact ℕ)) (at : ℕ) : Type 0 where
  pub before : (U : Form) × Taken n meet v S (take at fs) U
  pub among : at < length fs
  pub refuted : Refuted n meet v S (take (at + 1) fs)

-- The facts are all taken, and T is the form that they make; or it stops at one of them, and nothing is said of T.
abbrev pub Folded : {A : Type 0} (n : ℕ) (meet : ℕ → ℕ → ℕ) (v : ℕ) (S : Form) (fs : List (Fact ℕ)) → Result A ℕ → (T : Form) → Type 0
Folded n meet v S fs r T = MatchResult r (λ _. Taken n meet v S fs T) (Stopped n meet v S fs)

-- what is given at each number below count stands for the fact of that number
abbrev pub Gives : (gives : ℕ → CodeFact ℕ → Type 0) (count : ℕ) (facts : ℕ → Fact ℕ) → Type 0
Gives gives count facts = (i : ℕ) (f : CodeFact ℕ) → i < count → gives i f → node_fact f ≡ facts i
