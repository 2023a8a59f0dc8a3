-- `scripts::next_letter` meets its contract: where no byte is read, or a zero byte, no letter is left.
-- Assumes nothing.
use Rattle.std.proofs.Common.{arith, length, ◌≡◌}
use Rattle.scripts.proofs.Letters.{no_letter}
use Rattle.scripts.proofs.next_letter.Goals.{then-branch-eq0-via-then-branch-eq0, then-branch-eq0-via-else-branch-eq0+then-letters-eq0}
use Rattle.scripts.proofs.next_letter.Goals as goal

pub returns-then-branch-eq0 : goal.returns-then-branch-eq0
returns-then-branch-eq0 g c =
    let room : length c.read.new.buf ≡ 1 = c.read.auto.buf in
    no_letter c.in_ok-read.field-0 c.read.new.buf _ _ room (omega (arith, c.in_ok-read.ensures.bound.0, room)) c.in_ok-read.ensures.bytes.0
    (λ e. c.in_ok-read.ensures.bytes.1 e (omega (arith, room)))
    (λ d. elim c.then-branch-eq0.branch [
      | then-branch-eq0-via-then-branch-eq0 w ↦ absurd (d w.if-branch-eq0.true)
      | then-branch-eq0-via-else-branch-eq0+then-letters-eq0 w ↦ w.if-letters-eq0.true
    ])
