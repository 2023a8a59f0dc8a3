-- `rigcheck::run` meets its contract: V is the first byte of the input, and the packets are the rest.
-- Assumes nothing.
use Rattle.std.proofs.Common.{refl}
use Rattle.std.proofs.lemmas.Result.{on_ok_weaker}
use Rattle.rigcheck.proofs.Rounds.{run_refused, run_opened}
use Rattle.rigcheck.proofs.run.Goals as goal

pub returns-in-Err : goal.returns-in-Err
returns-in-Err g c =
    on_ok_weaker c.print-in-Err.result
    (run_refused _ _ c.read_full.auto.bytes c.if-branch-eq0.false c.in_ok-read_full.ensures.bytes c.no_block-block.ensures
    (rw c.in-Err.is at c.open.ensures) refl)
    c.print-in-Err.ensures

pub returns-in_ok-print-in-Ok : goal.returns-in_ok-print-in-Ok
returns-in_ok-print-in-Ok g c =
    on_ok_weaker c.all_packets.result
    (run_opened _ _ _ _ c.read_full.auto.bytes c.if-branch-eq0.false c.in_ok-read_full.ensures.bytes c.no_block-block.ensures
    (rw c.in-Ok.is at c.open.ensures) refl c.in_ok-print-in-Ok.ensures)
    c.all_packets.ensures
