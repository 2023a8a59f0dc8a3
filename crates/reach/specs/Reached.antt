-- Reply 10: the smallest joint of a rule that is not reached.
-- Assumes nothing.
use Rattle.replies.specs.Replies.{Reply, refusal}
use Rattle.std.specs.Prelude.{ℕ, ◌<◌, Ok}
use Rattle.replies.specs.declared.Cause.TheVariants.{NotReached}
use Rattle.meaning.specs.Rule.{Rule, Reached, rule_joint}

-- all joints below count are so, and the reply is done; or j is the smallest that is not, and is the reply's place
pub data SmallestNot (Is : ℕ → Type 0) (count : ℕ) : Reply → Type 0 where
  all : ((j : ℕ) → j < count → Is j) → SmallestNot Is count (Ok 0)
  not_reached : (j : ℕ) → j < count → (Is j → ⊥) → ((i : ℕ) → i < j → Is i) → SmallestNot Is count (refusal NotReached j)

-- the reply to a rule that no reply from 5 to 9 refuses
abbrev pub ReachReply : Rule → Reply → Type 0
ReachReply r = SmallestNot (λ j. Reached r (rule_joint j)) r.joints
