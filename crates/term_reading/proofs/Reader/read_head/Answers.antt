-- `term_reading::Reader::read_head` meets its contract: the joint, the fact that leads to it, and the kind, one behind the other.
-- Assumes nothing.
use Rattle.term_reading.proofs.Steps.{handed_on, lead_room, kind_room, head_stuck, head_done}
use Rattle.term_reading.proofs.Reader.read_head.Goals as goal

pub put_lead-facts-requires : goal.put_lead-facts-requires
put_lead-facts-requires c =
    let a = c.args in
    lead_room a.self.now.text.now a.self.now.v a.lead a.from a.packet.now c.requires _ _ c.in_ok-joint.ensures.is

pub read_kind-requires : goal.read_kind-requires
read_kind-requires c =
    let a = c.args in
    kind_room a.self.now.text.now a.self.now.v a.lead a.from a.packet.now c.requires _ _ c.in_ok-joint.ensures.is _ c.put_lead-facts.ensures

pub returns-in_err-end : goal.returns-in_err-end
returns-in_err-end c =
    let a = c.args in
    handed_on _ c.from_residual-in_err-end.ensures.1
    (λ around w. head_stuck a.self.now.text.now a.self.now.v a.lead a.from a.packet.now c.requires _ _ c.in_ok-joint.ensures.is _ around c.in_err-end.ensures.is w)

pub returns : goal.returns
returns c =
    let a = c.args in
    record {
      is =
          head_done a.self.now.text.now a.self.now.v a.lead a.from a.packet.now c.requires _ _ c.in_ok-joint.ensures.is _ c.put_lead-facts.ensures a.self.now.n _ _
          c.in_ok-end.ensures.is;
    }
