-- A packet of facts as bytes, as it is written: four bytes a fact behind a header of six.
-- Assumes nothing.
use Rattle.std.specs.Prelude.{List, [], ◌∷◌, ◌++◌, ℕ, ◌+◌, ◌*◌, ◌/◌, ◌%◌, length}
use Rattle.meaning.specs.declared.RigJoint.{RigJoint}
use Rattle.meaning.specs.Picture.{Fact}
use Rattle.meaning.specs.Picture.Fact.{has_kind, same, leads}

-- the four bytes of a fact
abbrev pub fact_bytes : Fact RigJoint → List ℕ
fact_bytes (has_kind a s) = 1 ∷ a.0 ∷ s ∷ 0 ∷ []
fact_bytes (same a b) = 2 ∷ a.0 ∷ b.0 ∷ 0 ∷ []
fact_bytes (leads a l c) = 3 ∷ a.0 ∷ l ∷ c.0 ∷ []

unfoldable pub all_bytes : List (Fact RigJoint) → List ℕ
all_bytes [] = []
all_bytes (f ∷ fs) = fact_bytes f ++ all_bytes fs

-- a facts packet for v joints: L = 4 + 4f big-endian, version 1, purpose 1, no ties, the joint count, then the facts
abbrev pub facts_packet : ℕ → List (Fact RigJoint) → List ℕ
facts_packet v fs = (4 + 4 * length fs) / 256 ∷ (4 + 4 * length fs) % 256 ∷ 1 ∷ 1 ∷ 0 ∷ v ∷ all_bytes fs
