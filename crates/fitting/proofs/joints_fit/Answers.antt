-- `fitting::joints_fit` meets its contract: the range of the V that was read, then one look at all joints or each in turn.
-- Assumes nothing.
use Rattle.std.proofs.Common.{◌≡◌, ℕ, List, Bool, ◌&&◌, ap, ◌∙◌, rules}
use borrow.Author.Tests.{tests}
use Rattle.joints.specs.Layout.{joints_of, block_form}
use Rattle.runs.specs.Runs.{within}
use Rattle.fitting.specs.Fits.{all, joint_fits, joints_fit}
use Rattle.fitting.proofs.joints_fit.Goals as goal

-- the answers for the V that was read, v, are those for the V that stands in the bytes
at_read : (n : ℕ) (s : List ℕ) {v : ℕ} {r : Bool} → v ≡ joints_of s → r ≡ (within 1 64 v && all (joint_fits n v (block_form s)) 0 64) → r ≡ joints_fit n s
unfolding joints_fit
at_read n s q e = e ∙ ap (λ (v : ℕ). within 1 64 v && all (joint_fits n v (block_form s)) 0 64) q

pub returns-then-not-contains : goal.returns-then-not-contains
returns-then-not-contains c = at_read _ _ (c.from-v.ensures ∙ c.joint_count.ensures) (search (rules, tests))

pub returns-then-all_apart : goal.returns-then-all_apart
returns-then-all_apart c = at_read _ _ (c.from-v.ensures ∙ c.joint_count.ensures) (search (rules, tests))

pub returns-else-all_apart : goal.returns-else-all_apart
returns-else-all_apart c = at_read _ _ (c.from-v.ensures ∙ c.joint_count.ensures) (search (rules, tests))
