-- What the steps of solving do: to a form, when two classes are joined or one place is set, and to the list of pairs of nodes that are
-- still to be made one. Only the solver's own functions cite these.
-- Assumes nothing.
use Rattle.std.specs.Prelude.{◌≡◌, ◌≢◌, ◌⊎◌, ◌↔◌, Bool, true, false, Result, MatchResult, cond, not, ◌&&◌, List, ℕ, ◌+◌, ◌*◌, ◌<◌, ◌≤◌, eqb, length, get_or, set}
use Rattle.meaning.specs.Picture.{Picture, Placing, Fact, All}
use Rattle.meaning.specs.Form.{Form, list_form, unknown, classes}
use Rattle.meaning.specs.Solving.{Smallest, Well, Models}
use Rattle.solver.specs.Unpacked.{Lent, Ready}

-- number b becomes a, any other stays
abbrev pub renumber : ℕ → ℕ → ℕ → ℕ
renumber b a x = cond (eqb x b) a x

-- of two links the one that is known, the first where both are
abbrev pub known_of : ℕ → ℕ → ℕ
known_of x y = cond (eqb x unknown) y x

-- whether both links are known
abbrev pub both_known : ℕ → ℕ → Bool
both_known x y = not (eqb x unknown) && not (eqb y unknown)

-- t is s with number b become a
pub record Renumbered (s : List ℕ) (b a : ℕ) (t : List ℕ) : Type 0 where
  pub size : length t ≡ length s
  pub at : (i : ℕ) → i < length s → get_or t i 0 ≡ renumber b a (get_or s i 0)

-- row is the row of node j in s
abbrev pub RowOf : List ℕ → ℕ → List ℕ → Type 0
RowOf s j row = (l : ℕ) → l < 16 → get_or row l 0 ≡ get_or s (j * 16 + l) 0

-- t is s with the row of node j set
pub record RowPut (s : List ℕ) (j : ℕ) (row : List ℕ) (t : List ℕ) : Type 0 where
  pub size : length t ≡ length s
  pub at : (l : ℕ) → l < 16 → get_or t (j * 16 + l) 0 ≡ get_or row l 0
  pub rest : (i l : ℕ) → l < 16 → i ≢ j → get_or t (i * 16 + l) 0 ≡ get_or s (i * 16 + l) 0

-- t is s with the links that a or b knows in the row of a, zeros in that of b, and number b become a in the first v rows
pub record RowsJoined (s : List ℕ) (v a b : ℕ) (t : List ℕ) : Type 0 where
  pub at_a : (l : ℕ) → l < 16 → get_or t (a * 16 + l) 0 ≡ renumber b a (known_of (get_or s (a * 16 + l) 0) (get_or s (b * 16 + l) 0))
  pub at_b : (l : ℕ) → l < 16 → get_or t (b * 16 + l) 0 ≡ 0
  pub inside : (j l : ℕ) → l < 16 → j < v → j ≢ a → j ≢ b → get_or t (j * 16 + l) 0 ≡ renumber b a (get_or s (j * 16 + l) 0)
  pub behind : (j l : ℕ) → l < 16 → v ≤ j → get_or t (j * 16 + l) 0 ≡ get_or s (j * 16 + l) 0

-- no row names b
abbrev pub Unnamed : ℕ → List ℕ → Type 0
Unnamed b rows = (j l : ℕ) → l < 16 → get_or rows (j * 16 + l) 0 ≢ b

-- T is S with the class of b joined to that of a, which has kind k from then on
pub record Joined (S : Form) (a b k : ℕ) (T : Form) : Type 0 where
  pub class : (j : ℕ) → T.class j ≡ renumber b a (S.class j)
  pub kind_a : T.kind a ≡ k
  pub kind_b : T.kind b ≡ 0
  pub kind_rest : (j : ℕ) → j ≢ a → j ≢ b → T.kind j ≡ S.kind j
  pub link_a : (l : ℕ) → l < 16 → T.link a l ≡ renumber b a (known_of (S.link a l) (S.link b l))
  pub link_b : (l : ℕ) → l < 16 → T.link b l ≡ 0
  pub link_rest : (j l : ℕ) → l < 16 → j ≢ a → j ≢ b → T.link j l ≡ renumber b a (S.link j l)

-- T is S with kind k at a
pub record KindSet (S : Form) (a k : ℕ) (T : Form) : Type 0 where
  pub class : (j : ℕ) → T.class j ≡ S.class j
  pub kind_a : T.kind a ≡ k
  pub kind_rest : (j : ℕ) → j ≢ a → T.kind j ≡ S.kind j
  pub link : (j l : ℕ) → l < 16 → T.link j l ≡ S.link j l

-- T is S with link l of a leading to c
pub record LinkSet (S : Form) (a l c : ℕ) (T : Form) : Type 0 where
  pub class : (j : ℕ) → T.class j ≡ S.class j
  pub kind : (j : ℕ) → T.kind j ≡ S.kind j
  pub link_a : T.link a l ≡ c
  pub link_rest : (j k : ℕ) → k < 16 → (j ≡ a → k ≡ l → ⊥) → T.link j k ≡ S.link j k

-- two different numbers, the smaller first
pub record InOrder (a b low high : ℕ) : Type 0 where
  pub less : low < high
  pub which : ((low ≡ a) × (high ≡ b)) ⊎ ((low ≡ b) × (high ≡ a))

abbrev pub pair_at : List (ℕ × ℕ) → ℕ → ℕ × ℕ
pair_at pairs i = get_or pairs i (0, 0)

-- the first size pairs hold: the two of each have one element
abbrev pub Pairs : List (ℕ × ℕ) → ℕ → (ℕ → ℕ) → Type 0
Pairs pairs size σ = (i : ℕ) → i < size → σ (pair_at pairs i).0 ≡ σ (pair_at pairs i).1

-- S with the pairs means what S₀ with the facts does. There is room for 16 pairs more at each of the joins that are still possible.
pub record Running
    (n : ℕ) (meet : ℕ → ℕ → ℕ) (v : ℕ) (S₀ : Form) (fs : List (Fact ℕ)) (S : Form) (pairs : List (ℕ × ℕ)) (size : ℕ)
    : Type 0 where
  pub well : Well n v S
  pub inside : (i : ℕ) → i < size → ((pair_at pairs i).0 < v) × ((pair_at pairs i).1 < v)
  pub room : size + 16 * classes S v ≤ 16 * v + 1
  pub means :
      (P : Picture n) (σ : ℕ → ℕ) → Placing P σ
      → (Models meet v S P σ × Pairs pairs size σ) ↔ (Models meet v S₀ P σ × All meet P σ fs)

-- The new pairs, from size to size', are the ends x l and y l of the links l < m that are known in both.
pub record Pushed (m : ℕ) (x y : ℕ → ℕ) (pairs : List (ℕ × ℕ)) (size : ℕ) (pairs' : List (ℕ × ℕ)) (size' : ℕ) : Type 0 where
  pub more : size ≤ size'
  pub most : size' ≤ size + m
  pub old : (i : ℕ) → i < size → pair_at pairs' i ≡ pair_at pairs i
  pub new :
      (i : ℕ) → size ≤ i → i < size'
      → (l : ℕ) × (l < m) × (x l ≢ unknown) × (y l ≢ unknown) × (pair_at pairs' i ≡ (x l, y l))
  pub all :
      (l : ℕ) → l < m → x l ≢ unknown → y l ≢ unknown
      → (i : ℕ) × (i < size') × (pair_at pairs' i ≡ (x l, y l))

-- two classes in order, of a well-formed form of v nodes
pub record Joinable (n v : ℕ) (class kind rows : List ℕ) (low high : ℕ) : Type 0 where
  pub lent : Lent class kind rows
  pub nodes : v ≤ 96
  pub well : Well n v (list_form class kind rows)
  pub less : low < high
  pub low_smallest : Smallest v (list_form class kind rows) low
  pub high_smallest : Smallest v (list_form class kind rows) high

-- what a step asks for: a lawful table, two classes that can be joined, and room for 16 pairs in place of the last
pub record JoinReady (n v : ℕ) (table class kind rows : List ℕ) (low high : ℕ) (pairs : List (ℕ × ℕ)) (size : ℕ) : Type 0 where
  pub ready : Ready n v table (list_form class kind rows)
  pub joinable : Joinable n v class kind rows low high
  pub some : 0 < size
  pub room : size + 15 ≤ length pairs

-- the two classes joined, and the ends of the links known in both pushed
pub record JoinDone
    (meet : ℕ → ℕ → ℕ) (S : Form) (low high : ℕ) (pairs : List (ℕ × ℕ)) (size : ℕ) (T : Form) (pairs' : List (ℕ × ℕ)) (size' : ℕ)
    : Type 0 where
  pub some : meet (S.kind low) (S.kind high) ≢ 0
  pub joined : Joined S low high (meet (S.kind low) (S.kind high)) T
  pub pushed : Pushed 16 (S.link low) (S.link high) pairs size pairs' size'

-- ... or their kinds have nothing in common
abbrev pub JoinStep :
    {E : Type 0} (meet : ℕ → ℕ → ℕ) (S : Form) (low high : ℕ) (pairs : List (ℕ × ℕ)) (size : ℕ) → Result ℕ E
    → (T : Form) (pairs' : List (ℕ × ℕ)) → Type 0
JoinStep meet S low high pairs size r T pairs' =
    MatchResult r (JoinDone meet S low high pairs size T pairs') (λ _. meet (S.kind low) (S.kind high) ≡ 0)

-- two classes joined from which nothing more follows, or the form as it was
pub record JoinedAlone (meet : ℕ → ℕ → ℕ) (S : Form) (low high : ℕ) (yes : Bool) (T : Form) : Type 0 where
  pub some : yes ≡ true → meet (S.kind low) (S.kind high) ≢ 0
  pub joined : yes ≡ true → Joined S low high (meet (S.kind low) (S.kind high)) T
  pub apart : yes ≡ true → (l : ℕ) → l < 16 → S.link low l ≢ unknown → S.link high l ≢ unknown → ⊥
  pub kept : yes ≡ false → T ≡ S

-- the kind of the class of x met with s, or nothing in common
pub record KindMet (meet : ℕ → ℕ → ℕ) (class kind : List ℕ) (x s : ℕ) (ok : Bool) (kind' : List ℕ) : Type 0 where
  pub some :
      ok ≡ true
      → let a = get_or class x 0 in
      (meet (get_or kind a 0) s ≢ 0) × (kind' ≡ set kind a (meet (get_or kind a 0) s))
  pub none : ok ≡ false → (meet (get_or kind (get_or class x 0) 0) s ≡ 0) × (kind' ≡ kind)

-- link l of the class of x set to the class of y, or known already
pub record LinkPut (class rows : List ℕ) (x l y : ℕ) (ok : Bool) (rows' : List ℕ) : Type 0 where
  pub free :
      ok ≡ true
      → let at = get_or class x 0 * 16 + l in
      (get_or rows at 0 ≡ unknown) × (rows' ≡ set rows at (get_or class y 0))
  pub known : ok ≡ false → (get_or rows (get_or class x 0 * 16 + l) 0 ≢ unknown) × (rows' ≡ rows)
