-- `writing::put_four` meets its contract: what is written, and the links from k on that are left to write.
-- Assumes nothing.
use mathlib.Core.Path.{◌≡◌}
use Prim.Native.Nat.{◌-◌, ◌+◌, ◌≤◌}
use Rattle.meaning.specs.Form.{links_from}
use Rattle.joints.specs.Layout.{block_form}
use Rattle.writing.specs.Putting.{form_bytes}
use Rattle.writing.proofs.Putting.{Putting, links_left}
use Rattle.writing.proofs.put_four.Given as goal

abbrev pub invariant-loop-k : goal.invariant-loop-k
invariant-loop-k l = (l.k ≤ l.l + 4) × (l.k-end ≡ l.l + 4) × Putting (form_bytes (links_from (block_form l.session) l.j l.l 4)) l.at l.initial.to l.to l.end (links_left (block_form l.session) l.j (l.l + 4) l.k)

abbrev pub decreases-loop-k : goal.decreases-loop-k
decreases-loop-k l = l.l + 4 - l.k
