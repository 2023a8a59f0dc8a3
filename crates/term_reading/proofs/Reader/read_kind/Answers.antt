-- `term_reading::Reader::read_kind` meets its contract: no kind, or a kind; a `:` without one is found alone.
-- Assumes nothing.
use Rattle.term_reading.proofs.Facts.{kind_said}
use Rattle.term_reading.proofs.Steps.{no_kind_step, kind_step}
use Rattle.term_reading.proofs.Reader.read_kind.Goals as goal

pub returns-then-not-stands : goal.returns-then-not-stands
returns-then-not-stands c =
    let a = c.args in
    record { is = no_kind_step a.self.now.text.now a.from c.requires a.self.now.n a.joint a.packet.now c.if-not-stands.ensures }

pub returns : goal.returns
returns c =
    let a = c.args in
    record {
      is =
          kind_step a.self.now.text.now a.from c.requires a.self.now.n a.joint _ _ _ _ _ _ c.if-not-stands.ensures c.in_ok-kind.ensures.is
          (kind_said _ _ c.put_fact-facts.ensures) c.first_wrong-wrong.ensures;
    }
