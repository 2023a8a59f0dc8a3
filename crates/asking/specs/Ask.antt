-- Ask: replies 1 and 4 to 10; third is the verdict; nothing is written.
-- Assumes nothing.
use Rattle.std.specs.Prelude.{◌≡◌, true, List, [], ◌∷◌, ℕ, Ok}
use Rattle.replies.specs.Replies.{refuses, first_refusal, Reply}
use Rattle.meaning.specs.declared.Verdict.{Verdict}
use Rattle.meaning.specs.Rule.{Judged, verdict_number}
use Rattle.packets.specs.Facts.{rule_of}
use Rattle.screening.specs.Screening.{packet_reply, rule_wanted}
use Rattle.reach.specs.Reached.{ReachReply}
use Rattle.joints.specs.Layout.{kinds_of, joints_of, taken}
use Rattle.blocks.specs.Layout.{rig_of}
use Rattle.blocks.specs.WellFormed.{block_reply}

-- replies 1 and 4 to 9, the lowest first; done where none fits
unfoldable pub ask_refusal : List ℕ → List ℕ → Reply
ask_refusal b p = first_refusal (block_reply b ∷ []) (packet_reply rule_wanted (kinds_of b) (joints_of b) p)

-- the reply to asking the packet p
pub data Ask (b p : List ℕ) (reply : Reply) : Type 0 where
  refused : refuses (ask_refusal b p) ≡ true → reply ≡ ask_refusal b p → Ask b p reply
  -- 10: a joint of the rule is not reached
  unreached : ask_refusal b p ≡ Ok 0 → ReachReply (rule_of p) reply → refuses reply ≡ true → Ask b p reply
  judged :
      ask_refusal b p ≡ Ok 0 → ReachReply (rule_of p) (Ok 0) → (verdict : Verdict)
      → Judged (rig_of b) (taken b) (rule_of p) verdict → reply ≡ Ok (verdict_number verdict) → Ask b p reply
