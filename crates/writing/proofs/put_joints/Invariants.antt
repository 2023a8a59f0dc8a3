-- `writing::put_joints` meets its contract: what is written, and the facts of the joints from j on that are left to write.
-- Assumes nothing.
use Prim.Native.Nat.{◌-◌, ◌≤◌}
use Rattle.meaning.specs.Form.{facts_from}
use Rattle.joints.specs.Layout.{block_form}
use Rattle.writing.specs.Putting.{form_bytes}
use Rattle.writing.proofs.Putting.{Putting, joints_left}
use Rattle.writing.proofs.put_joints.Given as goal

abbrev pub invariant-loop-j : goal.invariant-loop-j
invariant-loop-j l = (l.j ≤ l.v) × Putting (form_bytes (facts_from (block_form l.session) 0 l.v)) l.at l.initial.to l.to l.end (joints_left (block_form l.session) l.v l.j)

abbrev pub decreases-loop-j : goal.decreases-loop-j
decreases-loop-j l = l.v - l.j
