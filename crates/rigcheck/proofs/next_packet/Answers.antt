-- `rigcheck::next_packet` meets its contract: a packet that is read on is not too long, and what was read is the front of the input.
-- Assumes nothing.
use Rattle.std.proofs.Common.{◌≡◌, ◌≤◌, sym, ◌∙◌, arith, length}
use Rattle.std.proofs.KnownBytes.{Appends-nil}
use Rattle.rigcheck.specs.Lines.{longest}
use Rattle.rigcheck.proofs.Steps.{packet_short}
use Rattle.rigcheck.proofs.Fronts.{both_read, turn_on}
use Rattle.rigcheck.proofs.next_packet.Goals.{in-Some+in_ok-print, in_default}
use Rattle.rigcheck.proofs.next_packet.Goals as goal

pub read_rest-requires : goal.read_rest-requires
read_rest-requires g c = λ size e.
    let short : size ≤ longest = packet_short _ _ (sym c.next_step-step.ensures ∙ e) in
    omega (arith, short, c.read_to.auto.packet, c.no_packet-packet.ensures)

pub told-requires : goal.told-requires
told-requires g c = λ size e. packet_short _ _ (sym c.next_step-step.ensures ∙ e)

pub returns : goal.returns
returns g c =
    let long : length c.read_to.new.packet ≡ 4374 = omega (arith, c.read_to.auto.packet, c.no_packet-packet.ensures) in
    let long_still : length c.read_rest.new.packet ≡ 4374 = omega (arith, c.read_rest.auto.packet, long) in
    turn_on _ _ (omega (arith, long)) c.next_step-step.ensures
    (λ size e.
    let short : size ≤ longest = packet_short _ _ (sym c.next_step-step.ensures ∙ e) in
    let both : 2 ≤ c.in_ok-got.got = both_read _ _ (sym c.next_step-step.ensures ∙ e) in
    (omega (arith, both, c.in_ok-got.ensures.bytes.within), omega (arith, long_still, short)))
    c.in_ok-rest.ensures.keeps
    c.in_ok-got.ensures.bytes
    c.in_ok-rest.ensures.bytes
    c.told.ensures
    (elim c.match-told.branch [ in-Some+in_ok-print w ↦ rw (w.out-is, w.in-Some.is) w.in_ok-print.ensures | in_default w ↦ rw (w.out-is, w.in_default.is) (Appends-nil _) ])
    c.goes_on.ensures
