-- `writing::put_joints` meets its contract: what is written, and the facts of the joints from j on that are left to write.
-- Assumes nothing.
use Prim.Native.Nat.{◌+◌}
use native.Mathlib.Omega.{arith}
use Rattle.meaning.specs.Form.{facts_at}
use Rattle.joints.specs.Layout.{block_form}
use Rattle.writing.specs.Putting.{form_bytes}
use Rattle.writing.proofs.Putting.{put_room, put_goes_on, put_ends, joints_left, joints_step, joints_end}
use Rattle.writing.proofs.put_joints.Goals as goal

pub put_joint-end-requires : goal.put_joint-end-requires
put_joint-end-requires c = let s = c in let L = c.loop-j in
    let S = block_form s.args.session.now in (
      omega (arith, s.requires.0),
      put_room L.invariant.1 (form_bytes (facts_at S L.j)) (joints_left S s.args.v (L.j + 1)) (joints_step S (omega arith)) s.requires.1,
    )

pub loop-j-preserved : goal.loop-j-preserved
loop-j-preserved c = let a = c.args in let L = c.loop-j in
    let S = block_form a.session.now in (
      omega arith,
      put_goes_on L.invariant.1 (joints_left S a.v (L.j + 1)) (joints_step S (omega arith)) c.put_joint-end.ensures,
    )

pub returns : goal.returns
returns c = let a = c.args in
    put_ends c.loop-j.invariant.1 (joints_end (block_form a.session.now) (omega arith))
