-- 'Session block': "The block after taking facts is the one whose picture (the classes themselves) follows from the facts alone: joints are
-- one exactly when the facts force it, likewise kinds and links."
-- Assumes nothing.
use Rattle.std.specs.Prelude.{◌≡◌, ◌↔◌, List, ◌++◌, ℕ, ◌<◌}
use Rattle.kinds.specs.Kinds.{Under}
use Rattle.meaning.specs.declared.RigJoint.{RigJoint}
use Rattle.meaning.specs.Picture.{Picture, Placing, Fact, Holds, All}
use Rattle.meaning.specs.Picture.Fact.{has_kind, same, leads}
use Rattle.meaning.specs.Form.{Form}
use Rattle.meaning.specs.Rig.{Rig, meet_of, Counts}
use Rattle.joints.specs.Layout.{block_form, taken}
use Rattle.blocks.specs.Layout.{rig_of}
use Rattle.blocks.specs.WellFormed.{Stands}

-- the facts force f: it holds in every picture and placing that satisfy them
abbrev pub Forced : Rig → List (Fact RigJoint) → Fact RigJoint → Type 0
Forced R facts f =
    (P : Picture R.kinds) (σ : RigJoint → ℕ) → Counts R.profile P → Placing P σ → All (meet_of R) P σ facts → Holds (meet_of R) P σ f

-- the picture of a form, the classes themselves: the class of a joint, that class's kind, and where its link l leads
abbrev pub class_at : Form → RigJoint → ℕ
class_at S j = S.class j.0

abbrev pub kind_at : Form → RigJoint → ℕ
kind_at S j = S.kind (class_at S j)

abbrev pub link_at : Form → RigJoint → ℕ → ℕ
link_at S j l = S.link (class_at S j) l

-- that picture shows f
abbrev pub Shown : (ℕ → ℕ → ℕ) → Form → Fact RigJoint → Type 0
Shown meet S (has_kind a s) = Under meet (kind_at S a) s
Shown meet S (same a b) = class_at S a ≡ class_at S b
Shown meet S (leads a l c) = link_at S a l ≡ class_at S c

-- a fact that may be written of n kinds and v joints
abbrev pub Writable : ℕ → ℕ → Fact RigJoint → Type 0
Writable n v (has_kind a s) = (a.0 < v) × (s < n)
Writable n v (same a b) = (a.0 < v) × (b.0 < v)
Writable n v (leads a l c) = (a.0 < v) × (l < 16) × (c.0 < v)

-- `after` is a well-formed block of the same rig whose picture follows from the facts alone: it shows exactly what they force
pub record PictureFollows (b : List ℕ) (facts : List (Fact RigJoint)) (after : List ℕ) : Type 0 where
  pub stands : Stands (rig_of b) after
  pub exactly : (f : Fact RigJoint) → Writable (rig_of b).kinds (rig_of b).joints f →
      Shown (meet_of (rig_of b)) (block_form after) f ↔ Forced (rig_of b) (taken b ++ facts) f
