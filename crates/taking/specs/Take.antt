-- Take: replies 1, 4 to 9 and 11; all facts or none. What it may answer, and what the block then is, in the words of the meaning.
-- Assumes nothing.
use Rattle.std.specs.Prelude.{◌≡◌, true, List, [], ◌∷◌, ◌++◌, ℕ, ◌-◌, Ok}
use Rattle.replies.specs.declared.Cause.TheVariants.{Clash}
use Rattle.replies.specs.Replies.{refuses, first_refusal, Reply, refusal}
use Rattle.meaning.specs.declared.RigJoint.{RigJoint}
use Rattle.meaning.specs.Picture.{Fact}
use Rattle.meaning.specs.Rig.{FirstClash, SameMeaning}
use Rattle.packets.specs.Packet.{fact_at}
use Rattle.packets.specs.Facts.{rig_facts}
use Rattle.screening.specs.Screening.{packet_reply, facts_wanted}
use Rattle.joints.specs.Layout.{kinds_of, joints_of, taken, class_count}
use Rattle.blocks.specs.Layout.{rig_of}
use Rattle.blocks.specs.WellFormed.{block_reply, Stands}

-- replies 1 and 4 to 9, the lowest first; done where none fits
unfoldable pub take_refusal : List ℕ → List ℕ → Reply
take_refusal b p = first_refusal (block_reply b ∷ []) (packet_reply (facts_wanted (joints_of b)) (kinds_of b) (joints_of b) p)

-- `after` is the block after taking the facts: well formed, of the same rig, and its solved form is satisfied by exactly the pictures and
-- placings that satisfy both the taken facts and these. This fixes every byte: `after_one` in proofs/OneTake.antt.
pub record After (b : List ℕ) (facts : List (Fact RigJoint)) (after : List ℕ) : Type 0 where
  pub stands : Stands (rig_of b) after
  pub means : SameMeaning (rig_of b) (taken after) (taken b ++ facts)

-- the reply to taking the packet p, and the block afterwards
pub data Take (b p : List ℕ) (reply : Reply) (after : List ℕ) : Type 0 where
  refused : refuses (take_refusal b p) ≡ true → reply ≡ take_refusal b p → after ≡ b → Take b p reply after
  -- the place is the first byte of the first fact such that the taken facts and the packet's up to and including it have no picture
  clashes : take_refusal b p ≡ Ok 0 → (i : ℕ) → FirstClash (rig_of b) (taken b) (rig_facts p) i → reply ≡ refusal Clash (fact_at p i) → after ≡ b →
      Take b p reply after
  -- some picture satisfies the taken facts and the packet's, the block's own; third is the joins: classes before less classes after
  done : take_refusal b p ≡ Ok 0 → After b (rig_facts p) after → reply ≡ Ok (class_count b - class_count after) → Take b p reply after
