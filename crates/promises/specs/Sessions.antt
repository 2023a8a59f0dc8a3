-- Demand 3's words: "A session begins at opening, and from then on only taking, lent it as the session, writes it."
-- Assumes nothing.
use Rattle.std.specs.Prelude.{◌≡◌, ◌↔◌, false, cond, ℕ}
use mathlib.Core.List.{List, [], ◌∷◌, ◌++◌, Memᴰ}
use Rattle.replies.specs.Replies.{refuses, Reply}
use Rattle.meaning.specs.declared.RigJoint.{RigJoint}
use Rattle.meaning.specs.Picture.{Fact}
use Rattle.meaning.specs.Rig.{Rig}
use Rattle.meaning.specs.Rig.Profile.{every}
use Rattle.packets.specs.Facts.{rig_facts}
use Rattle.opening.specs.Open.{open_reply, open_block}
use Rattle.taking.specs.Take.{Take}
use Rattle.asking.specs.Ask.{Ask}

-- a packet sent to taking, and the reply to it
pub record Sent : Type 0 where
  pub packet : List ℕ
  pub reply : Reply

-- calls in turn, each on the block that the one before left: from a block, with what is sent to taking, to a later block
pub data Calls : List ℕ → List Sent → List ℕ → Type 0 where
  none : {b : List ℕ} → Calls b [] b
  -- the packet may be taken, refused, or clash
  taking : {b next c : List ℕ} {sent : List Sent} (s : Sent) → Take b s.packet s.reply next → Calls next sent c → Calls b (s ∷ sent) c
  -- Asking leaves the block as it is, and so do the calls that are lent an output: writing the solved form, reading a term and writing one.
  asking : {b c p : List ℕ} {r : Reply} {sent : List Sent} → Ask b p r → Calls b sent c → Calls b sent c
  writing : {b c : List ℕ} {sent : List Sent} (out : List ℕ) → Calls b sent c → Calls b sent c

-- a session opened with n kinds, v joints and this table: what was sent since, in order, and the block now
pub record Session (n v : ℕ) (table : List ℕ) (sent : List Sent) (b : List ℕ) : Type 0 where
  -- the block as it was lent to opening
  pub lent : List ℕ
  pub opens : refuses (open_reply n v table lent) ≡ false
  pub calls : Calls (open_block n v table lent) sent b

-- the rig that it was opened with
abbrev pub opened_rig : ℕ → ℕ → List ℕ → Rig
opened_rig n v table = record { kinds = n; table = table; joints = v; profile = every }

-- the facts taken: those of the packets whose reply is no refusal
unfoldable pub facts_taken : List Sent → List (Fact RigJoint)
facts_taken [] = []
facts_taken (s ∷ sent) = cond (refuses s.reply) (facts_taken sent) (rig_facts s.packet ++ facts_taken sent)

-- the same set of facts: in any order, split in any way, with repeats
abbrev pub SameFacts : List (Fact RigJoint) → List (Fact RigJoint) → Type 0
SameFacts fs gs = (f : Fact RigJoint) → Memᴰ f fs ↔ Memᴰ f gs
