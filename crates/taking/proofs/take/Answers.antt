-- `taking::take` meets its contract: refused, or what the solver makes of the packet, stored and told.
-- Assumes nothing.
use mathlib.Core.Path.{◌≡◌, refl}
use Rattle.std.specs.Prelude.{Ok, Err}
use Rattle.replies.proofs.Laws.{went_on, stopped, handed_back}
use Rattle.taking.specs.Take.{take_refusal}
use Rattle.taking.specs.Take.Take.{refused}
use Rattle.taking.proofs.Taking.{take_goes_on, clash_among, take_ends}
use Rattle.taking.proofs.take.Goals as goal

pub returns-in_err-refusal : goal.returns-in_err-refusal
returns-in_err-refusal c =
    let e = c.refusal.ensures in
    refused (stopped e c.in_err-refusal.was) (handed_back e c.in_err-refusal.was c.from_residual.ensures.1) refl

pub solve-requires : goal.solve-requires
solve-requires c =
    let goes_on : take_refusal c.args.block.now c.args.packet.now ≡ Ok 0 = take_goes_on _ _ (went_on c.refusal.ensures c.in_ok-refusal.was) in
    goes_on

pub clash_at-requires : goal.clash_at-requires
clash_at-requires c =
    let goes_on : take_refusal c.args.block.now c.args.packet.now ≡ Ok 0 = take_goes_on _ _ (went_on c.refusal.ensures c.in_ok-refusal.was) in
    clash_among _ _ goes_on (rw c.in-Err.is at c.solve.ensures).0

pub returns-in-Ok : goal.returns-in-Ok
returns-in-Ok c =
    let goes_on : take_refusal c.args.block.now c.args.packet.now ≡ Ok 0 = take_goes_on _ _ (went_on c.refusal.ensures c.in_ok-refusal.was) in
    take_ends (Ok _) goes_on (rw c.in-Ok.is at c.solve.ensures) refl

pub returns-in-Err : goal.returns-in-Err
returns-in-Err c =
    let goes_on : take_refusal c.args.block.now c.args.packet.now ≡ Ok 0 = take_goes_on _ _ (went_on c.refusal.ensures c.in_ok-refusal.was) in
    rw c.clash_at.ensures (take_ends (Err _) goes_on (rw c.in-Err.is at c.solve.ensures) refl)
