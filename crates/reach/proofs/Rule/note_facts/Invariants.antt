-- `reach::Rule::note_facts` meets its contract. The loop's invariant: the facts passed are noted.
-- The measure is what is left of the facts.
-- Assumes nothing.
use mathlib.Core.Path.{◌≡◌}
use Prim.Native.Nat.{◌-◌, ◌≤◌}
use Rattle.packets.specs.Packet.{fact_count}
use Rattle.reach.specs.Marking.{Leads}
use Rattle.reach.proofs.Rule.note_facts.Given as goal

abbrev pub invariant-loop-i : goal.invariant-loop-i
invariant-loop-i l = (l.i ≤ l.i-end) × (l.i-end ≡ fact_count l.self) × Leads l.self l.i l.to

abbrev pub decreases-loop-i : goal.decreases-loop-i
decreases-loop-i l = l.i-end - l.i
