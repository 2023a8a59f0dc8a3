-- `screening::words::bits` meets its contract: the limits for the tag are below the highest bits, so that they can be taken off.
-- Assumes nothing.
use Prim.Native.Nat.{◌%◌}
use Rattle.screening.proofs.Clear.{taken_off}
use Rattle.screening.proofs.words.bits.Goals as goal

pub overflow_sub-result : goal.overflow_sub-result
overflow_sub-result c =
    let a = c.args in
    rw c.limits_for.ensures (taken_off (a.word % 256) a.kind a.same a.link a.word c.requires)
