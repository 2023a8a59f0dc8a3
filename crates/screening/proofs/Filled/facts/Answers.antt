-- `screening::Filled::facts` meets its contract: its parts are the packet's facts.
-- Assumes nothing.
use mathlib.Core.Path.{ap, ◌∙◌}
use mathlib.Core.List.{List, []}
use Prim.Native.Nat.{ℕ}
use lib.ListN.{get_or}
use Rattle.screening.proofs.Clear.{left_from, facts_at}
use Rattle.screening.proofs.Filled.facts.Goals as goal

pub returns-clause-each : goal.returns-clause-each
returns-clause-each c =
    let front = rw (c.bytes.ensures, left_from c.self.inside.packet c.fact_at.result) at c.as_chunks.ensures.front in
    rw (← c.self.view_is) (λ i h. ap (λ (l : List (List ℕ)). get_or l i []) front ∙ facts_at c.self.invariant c.fact_at.ensures.0 i h)
