-- `reach::Rule::note_fact` meets its contract: the fact read is the i-th, and where it is a link its numbers are in range.
-- Assumes nothing.
use mathlib.Core.Path.{sym, ap, ◌∙◌}
use native.Mathlib.Omega.{arith}
use lib.ListN.{length}
use Rattle.meaning.specs.Decoding.{decoded}
use Rattle.screening.proofs.Screening.{fact_inside}
use Rattle.reach.proofs.RulePacket.{rule_well, rule_link}
use Rattle.reach.proofs.Marking.{leads_link}
use Rattle.reach.proofs.Rule.note_fact.Goals as goal

pub fact_at-requires : goal.fact_at-requires
fact_at-requires c = omega (arith, (rule_well c.self.invariant).whole.few, rw (← c.self.view_is) at c.requires.i_bound)

pub rule_fact-fact-requires : goal.rule_fact-fact-requires
rule_fact-fact-requires c =
    let bound = rw (← c.self.view_is) at c.requires.i_bound in
    omega (arith, fact_inside (rule_well c.self.invariant).whole c.args.i bound, c.fact_at.ensures.0, ap length c.bytes.ensures)

pub note-requires : goal.note-requires
note-requires c =
    let read = rw (c.bytes.ensures, c.fact_at.ensures.0) at c.rule_fact-fact.ensures in
    let bound = rw (← c.self.view_is) at c.requires.i_bound in
    let below = rule_link c.self.invariant c.args.i bound (sym read ∙ ap decoded c.in-Link.is) in
    (omega arith, omega arith)

pub returns-in-Link : goal.returns-in-Link
returns-in-Link c =
    let p = c.self.inside.packet in
    let read = rw (c.bytes.ensures, c.fact_at.ensures.0) at c.rule_fact-fact.ensures in
    let bound = rw (← c.self.view_is) at c.requires.i_bound in
    let leads = rw (← c.self.view_is) at c.requires.leads in
    rw (← c.self.view_is) (leads_link p c.args.i bound leads (sym read ∙ ap decoded c.in-Link.is) c.note.ensures)
