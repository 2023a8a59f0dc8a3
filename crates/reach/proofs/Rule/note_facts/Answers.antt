-- `reach::Rule::note_facts` meets its contract. The loop's invariant: the facts passed are noted.
-- The measure is what is left of the facts.
-- Assumes nothing.
use mathlib.Core.Path.{ap, sym, ◌∙◌, subst}
use mathlib.Core.List.{List}
use Prim.Native.Nat.{ℕ}
use native.Mathlib.Omega.{arith}
use Rattle.packets.specs.Packet.{fact_count}
use Rattle.reach.specs.Marking.{Leads}
use Rattle.reach.proofs.Marking.{leads_none}
use Rattle.reach.proofs.Rule.note_facts.Goals as goal

pub loop-i-init : goal.loop-i-init
loop-i-init c =
    let s = c in
    (omega arith, c.fact_count-i-end.ensures ∙ ap fact_count c.self.view_is, subst (λ (t : List ℕ). Leads s.args.self.now 0 t) (sym s.requires) (leads_none _))
