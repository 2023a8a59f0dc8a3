-- `writing::put_form` meets its contract: the facts stand from byte 6 on, and the first six bytes are put last.
-- Assumes nothing.
use Rattle.std.proofs.Common.{arith}
use Rattle.meaning.specs.Form.{taken_facts}
use Rattle.joints.specs.Layout.{block_form}
use Rattle.writing.proofs.Putting.{form_put}
use Rattle.writing.proofs.Writing.{facts_room_lem, put_short, form_done}
use Rattle.writing.proofs.put_form.Goals as goal

pub put_joints-end-requires : goal.put_joints-end-requires
put_joints-end-requires c =
    let v = c.joint_count-v in
    (v.ensures.in_range.1, facts_room_lem v.result (block_form c.session.result) v.ensures.in_range.1 c.args.to.now c.requires)

pub put_header-requires : goal.put_header-requires
put_header-requires c =
    let v = c.joint_count-v in
    let p = c.put_joints-end.ensures in
    (omega (arith, p.size, c.requires), omega (arith, put_short v.result (block_form c.session.result) v.ensures.in_range.1 p))

pub returns-clause-put : goal.returns-clause-put
returns-clause-put c =
    let v = c.joint_count-v in
    let session = c.session.result in
    rw (← c.session.ensures)
    (form_done session (rw c.session.ensures v.ensures.count)
    (form_put v.result (taken_facts v.result (block_form session)) (omega (arith, c.requires)) c.put_joints-end.ensures c.put_header.ensures))

pub returns-clause-short : goal.returns-clause-short
returns-clause-short c =
    let v = c.joint_count-v in
    put_short v.result (block_form c.session.result) v.ensures.in_range.1 c.put_joints-end.ensures
