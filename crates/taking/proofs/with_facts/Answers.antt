-- `taking::with_facts` meets its contract: each call of the closure gives the packet's fact of that number, at nodes.
-- Assumes nothing.
use mathlib.Core.Path.{◌≡◌}
use Prim.Native.Nat.{◌<◌}
use native.Mathlib.Omega.{arith}
use borrow.Author.Rules.{rules}
use Rattle.packets.specs.Packet.{fact_count}
use Rattle.screening.proofs.Screening.{fact_inside}
use Rattle.solver.specs.Unpacked.{node_fact}
use Rattle.taking.proofs.Taking.{node_fact_at, node_facts, packet_well, node_fact_in}
use Rattle.taking.proofs.with_facts.Goals as goal

pub fact_count-count-requires : goal.fact_count-count-requires
fact_count-count-requires c = (packet_well c.requires.packet_value).whole.header

pub take_all-requires-clause-callable : goal.take_all-requires-clause-callable
take_all-requires-clause-callable c = λ i h κs p e r s u l.
    let w = (packet_well c.requires.packet_value).whole in
    let below : i < fact_count c.args.packet.now = omega (arith, h, c.fact_count-count.ensures) in
    (w.header, omega (arith, w.few, below), fact_inside w i below)

pub take_all-requires-clause-in_range : goal.take_all-requires-clause-in_range
take_all-requires-clause-in_range c = λ i f h e.
    let is : node_fact f ≡ node_fact_at c.args.packet.now i = search rules in
    node_fact_in (packet_well c.requires.packet_value) i (omega (arith, h, c.fact_count-count.ensures)) is

pub returns : goal.returns
returns c =
    let all = c.take_all.ensures.folded (node_fact_at c.args.packet.now) (λ i f h e. search rules) in
    rw (node_facts c.args.packet.now) (rw c.fact_count-count.ensures at all)
