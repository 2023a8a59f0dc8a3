-- `asking::with_ties` meets its contract: each call of the closure gives the rule's tie of that number, at nodes.
-- Assumes nothing.
use mathlib.Core.Path.{◌≡◌}
use native.Mathlib.Omega.{arith}
use borrow.Author.Rules.{rules}
use Rattle.screening.specs.Screening.{rule_wanted}
use Rattle.screening.proofs.Screening.{tie_inside}
use Rattle.screening.proofs.WellFormed.{WellFormed}
use Rattle.solver.specs.Unpacked.{node_fact}
use Rattle.asking.proofs.Asking.{node_tie, rule_fits, tie_range, node_ties, folded_took, on_ok_too}
use Rattle.asking.proofs.with_ties.Goals as goal

pub bounds-packet-5 : goal.bounds-packet-5
bounds-packet-5 c =
    let fits : WellFormed rule_wanted c.args.table.n c.args.v c.args.packet.now = rule_fits _ _ _ c.requires.packet_value in
    omega (arith, fits.whole.header)

pub bounds-packet-4 : goal.bounds-packet-4
bounds-packet-4 c =
    let fits : WellFormed rule_wanted c.args.table.n c.args.v c.args.packet.now = rule_fits _ _ _ c.requires.packet_value in
    omega (arith, fits.whole.header)

pub take_all-requires-clause-callable : goal.take_all-requires-clause-callable
take_all-requires-clause-callable c = λ i h κs p e r s u l m.
    let fits : WellFormed rule_wanted c.args.table.n c.args.v c.args.packet.now = rule_fits _ _ _ c.requires.packet_value in
    (omega (arith, h, fits.ties_to), tie_inside fits.whole i h, omega (arith, c.requires.ready.0.nodes, fits.tie_rule i h))

pub take_all-requires-clause-in_range : goal.take_all-requires-clause-in_range
take_all-requires-clause-in_range c = λ i f h e.
    let is : node_fact f ≡ node_tie c.args.v c.args.packet.now i = search rules in
    let fits : WellFormed rule_wanted c.args.table.n c.args.v c.args.packet.now = rule_fits _ _ _ c.requires.packet_value in
    rw is (tie_range fits i h)

pub returns : goal.returns
returns c =
    let all = c.take_all.ensures.folded (node_tie c.args.v c.args.packet.now) (λ i f h e. search rules) in (
      rw (node_ties c.args.v c.args.packet.now) (folded_took _ _ _ _ _ _ _ _ c.map_err.ensures.variant all),
      on_ok_too _ _ _ c.map_err.ensures.variant c.take_all.ensures.named,
    )
