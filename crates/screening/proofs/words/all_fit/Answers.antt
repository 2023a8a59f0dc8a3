-- `screening::words::all_fit` meets its contract: the bits gathered have no highest bit.
-- Assumes nothing.
use borrow.Author.Tests.{eqb-true}
use Rattle.screening.proofs.Clear.{all_clear}
use Rattle.screening.proofs.words.all_fit.Goals as goal

pub returns : goal.returns
returns c = λ e.
    let link = c in
    let same = link in
    let kind = same in
    let kinds = kind in
    let joints = kinds in
    let s = joints in
    let j = rw s.filled.view_is at s.joint_count-joints.ensures.0 in
    all_clear s.args.n s.args.filled.now kinds.if-n-gt128.false (rw j at joints.if-joints-gt128.false) j
    kind.limits-kind.ensures same.limits-same.ensures link.limits-link.ensures (c.all_bits.ensures (eqb-true _ _ e))
