-- `writing::put_links` meets its contract: what is written, and the fours of links from the q-th on that are left to write.
-- Assumes nothing.
use Prim.Native.Nat.{◌-◌, ◌*◌, ◌≤◌}
use Rattle.meaning.specs.Form.{links_from}
use Rattle.joints.specs.Layout.{block_form}
use Rattle.writing.specs.Putting.{form_bytes}
use Rattle.writing.proofs.Putting.{Putting, links_left}
use Rattle.writing.proofs.put_links.Given as goal

abbrev pub invariant-loop-q : goal.invariant-loop-q
invariant-loop-q l = (l.q ≤ 4) × Putting (form_bytes (links_from (block_form l.session) l.j 0 16)) l.at l.initial.to l.to l.end (links_left (block_form l.session) l.j 16 (4 * l.q))

abbrev pub decreases-loop-q : goal.decreases-loop-q
decreases-loop-q l = 4 - l.q
