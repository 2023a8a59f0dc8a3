-- What the solver makes of a packet, in the words of the contract of taking. No call cites this.
-- Assumes nothing.
use Rattle.std.specs.Prelude.{◌≡◌, Result, MatchResult, List, ℕ, ◌-◌}
use Rattle.meaning.specs.Rig.{FirstClash}
use Rattle.packets.specs.Facts.{rig_facts}
use Rattle.joints.specs.Layout.{taken, class_count}
use Rattle.blocks.specs.Layout.{rig_of}
use Rattle.taking.specs.Take.{After}

-- the block is the one after taking the packet, and the joins are counted; or a clash at the first fact up to which no picture is left, and the
-- block is as it was
abbrev pub Solves : (b p : List ℕ) → Result ℕ ℕ → (after : List ℕ) → Type 0
Solves b p r after =
    MatchResult r
    (λ joins. After b (rig_facts p) after × (joins ≡ class_count b - class_count after))
    (λ at. FirstClash (rig_of b) (taken b) (rig_facts p) at × (after ≡ b))
