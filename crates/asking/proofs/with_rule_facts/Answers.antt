-- `asking::with_rule_facts` meets its contract: each call of the closure gives the rule's fact of that number, at nodes.
-- Assumes nothing.
use mathlib.Core.Path.{◌≡◌}
use Prim.Native.Nat.{◌<◌}
use native.Mathlib.Omega.{arith}
use borrow.Author.Rules.{rules}
use Rattle.packets.specs.Packet.{fact_count}
use Rattle.screening.specs.Screening.{rule_wanted}
use Rattle.screening.proofs.Screening.{fact_inside}
use Rattle.screening.proofs.WellFormed.{WellFormed}
use Rattle.solver.specs.Unpacked.{node_fact}
use Rattle.asking.proofs.Asking.{node_rule_fact, rule_fits, fact_small, node_fact_range, node_facts, folded_took}
use Rattle.asking.proofs.with_rule_facts.Goals as goal

pub bounds-packet-5 : goal.bounds-packet-5
bounds-packet-5 c =
    let fits : WellFormed rule_wanted c.args.table.n c.args.v c.args.packet.now = rule_fits _ _ _ c.requires.packet_value in
    omega (arith, fits.whole.header)

pub fact_count-count-requires : goal.fact_count-count-requires
fact_count-count-requires c =
    let fits : WellFormed rule_wanted c.args.table.n c.args.v c.args.packet.now = rule_fits _ _ _ c.requires.packet_value in
    fits.whole.header

pub take_all-requires-clause-callable : goal.take_all-requires-clause-callable
take_all-requires-clause-callable c = λ i h κs p e r s u l m.
    let fits : WellFormed rule_wanted c.args.table.n c.args.v c.args.packet.now = rule_fits _ _ _ c.requires.packet_value in
    let below : i < fact_count c.args.packet.now = omega (arith, h, c.fact_count-count.ensures) in (
      fits.whole.header,
      omega (arith, fits.whole.few, below),
      fact_inside fits.whole i below,
      omega (arith, c.requires.ready.0.nodes),
      (c.args.table.n, fact_small fits i below),
    )

pub take_all-requires-clause-in_range : goal.take_all-requires-clause-in_range
take_all-requires-clause-in_range c = λ i f h e.
    let is : node_fact f ≡ node_rule_fact c.args.v c.args.packet.now i = search rules in
    let fits : WellFormed rule_wanted c.args.table.n c.args.v c.args.packet.now = rule_fits _ _ _ c.requires.packet_value in
    rw is (node_fact_range fits i (omega (arith, h, c.fact_count-count.ensures)))

pub returns : goal.returns
returns c =
    let all = c.take_all.ensures.folded (node_rule_fact c.args.v c.args.packet.now) (λ i f h e. search rules) in
    rw (node_facts c.args.v c.args.packet.now) (folded_took _ _ _ _ _ _ _ _ c.map_err.ensures.variant (rw c.fact_count-count.ensures at all))
