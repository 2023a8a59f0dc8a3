-- `reach::Rule::mark_ties` meets its contract. The loop's invariant: what is marked is reached, and the ties passed are marked.
-- The measure is what is left of the ties.
-- Assumes nothing.
use mathlib.Core.Path.{◌≡◌}
use Prim.Native.Nat.{ℕ, ◌-◌, ◌≤◌, ◌<◌}
use Rattle.packets.specs.Packet.{byte, ties, tie_at}
use Rattle.reach.specs.Marking.{Marked, Sound}
use Rattle.reach.proofs.Rule.mark_ties.Given as goal

abbrev pub invariant-loop-i : goal.invariant-loop-i
invariant-loop-i l = (l.i ≤ l.i-end) × (l.i-end ≡ ties l.self-inside.packet) × Sound l.self-inside.packet l.marks.0 × ((k : ℕ) → k < l.i → Marked l.marks.0 (byte l.self-inside.packet (tie_at k)))

abbrev pub decreases-loop-i : goal.decreases-loop-i
decreases-loop-i l = l.i-end - l.i
