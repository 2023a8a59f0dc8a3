-- When a form is well formed, and what the solver's steps do, in the words of forms. These stand between the contracts of the calls and the solver's code; no exported
-- contract rests on them.
-- Assumes nothing.
use Rattle.std.specs.Prelude.{◌≡◌, ◌≢◌, ◌⊎◌, ◌↔◌, List, [], ◌∷◌, ℕ, ◌<◌, ◌≤◌}
use Rattle.kinds.specs.Kinds.{Under}
use Rattle.meaning.specs.declared.RigJoint.{RigJoint}
use Rattle.meaning.specs.Picture.{Picture, Placing, Fact, All}
use Rattle.meaning.specs.Picture.Fact.{has_kind, same, leads}
use Rattle.meaning.specs.Form.{Form, unknown}

-- j is its class's smallest joint, by which the class is numbered
abbrev pub Smallest : ℕ → Form → ℕ → Type 0
Smallest v S j = (j < v) × (S.class j ≡ j)

pub record Well (n v : ℕ) (S : Form) : Type 0 where
  -- a class number is a class's smallest joint, and at most its joint
  pub class_le : (j : ℕ) → j < v → S.class j ≤ j
  pub class_smallest : (j : ℕ) → j < v → S.class (S.class j) ≡ S.class j
  -- every class has a kind from 1 to n - 1
  pub kind_some : (j : ℕ) → Smallest v S j → S.kind j ≢ 0
  pub kind_in : (j : ℕ) → S.kind j < n
  -- a link is not known or leads to a class's smallest joint
  pub link_smallest : (j l : ℕ) → Smallest v S j → l < 16 → (S.link j l ≡ unknown) ⊎ Smallest v S (S.link j l)
  -- other joints have kind 0 and a zero row, as have joints from v on, whose class is 0
  pub kind_rest : (j : ℕ) → (Smallest v S j → ⊥) → S.kind j ≡ 0
  pub link_rest : (j l : ℕ) → (Smallest v S j → ⊥) → l < 16 → S.link j l ≡ 0
  pub class_rest : (j : ℕ) → v ≤ j → S.class j ≡ 0

-- the node of a rig joint
abbrev pub rig_number : RigJoint → ℕ
rig_number j = j.0

-- the numbers of a fact are in range: joints below v, kinds below n, links below 16
abbrev pub InRange : ℕ → ℕ → Fact ℕ → Type 0
InRange n v (has_kind a s) = (a < v) × (s < n)
InRange n v (same a b) = (a < v) × (b < v)
InRange n v (leads a l c) = (a < v) × (l < 16) × (c < v)

abbrev pub AllInRange : ℕ → ℕ → List (Fact ℕ) → Type 0
AllInRange n v [] = Unit {0}
AllInRange n v (f ∷ fs) = InRange n v f × AllInRange n v fs

-- what the facts of a form say, joint by joint
pub record Models {n : ℕ} (meet : ℕ → ℕ → ℕ) (v : ℕ) (S : Form) (P : Picture n) (σ : ℕ → ℕ) : Type 0 where
  pub one : (j : ℕ) → j < v → σ j ≡ σ (S.class j)
  pub kind : (j : ℕ) → Smallest v S j → Under meet (P.kind (σ j)) (S.kind j)
  pub link : (j l : ℕ) → Smallest v S j → l < 16 → S.link j l ≢ unknown → P.link (σ j) l ≡ σ (S.link j l)

-- T is what S becomes when the facts are taken
pub record Taken (n : ℕ) (meet : ℕ → ℕ → ℕ) (v : ℕ) (S : Form) (fs : List (Fact ℕ)) (T : Form) : Type 0 where
  pub well : Well n v T
  pub means : (P : Picture n) (σ : ℕ → ℕ) → Placing P σ → Models meet v T P σ ↔ (Models meet v S P σ × All meet P σ fs)

-- no picture satisfies S and the facts
abbrev pub Refuted : (n : ℕ) → (ℕ → ℕ → ℕ) → ℕ → Form → List (Fact ℕ) → Type 0
Refuted n meet v S fs = (P : Picture n) (σ : ℕ → ℕ) → Placing P σ → Models meet v S P σ → All meet P σ fs → ⊥
