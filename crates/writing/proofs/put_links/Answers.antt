-- `writing::put_links` meets its contract: what is written, and the fours of links from the q-th on that are left to write.
-- Assumes nothing.
use Prim.Native.Nat.{◌+◌, ◌*◌}
use native.Mathlib.Omega.{arith}
use Rattle.meaning.specs.Form.{links_from}
use Rattle.joints.specs.Layout.{block_form}
use Rattle.writing.specs.Putting.{form_bytes}
use Rattle.writing.proofs.Putting.{put_room, put_goes_on, put_ends, links_left, fours_step, links_end}
use Rattle.writing.proofs.put_links.Goals as goal

pub put_some-end-requires : goal.put_some-end-requires
put_some-end-requires c =
    let s = c in
    let L = c.loop-q in
    let S = block_form s.args.session.now in
    let j = s.args.j in (
      s.requires.0,
      omega arith,
      put_room L.invariant.1 (form_bytes (links_from S j (4 * L.q) 4)) (links_left S j 16 (4 * (L.q + 1))) (fours_step S j L.q (omega arith)) s.requires.1,
    )

pub loop-q-preserved : goal.loop-q-preserved
loop-q-preserved c =
    let a = c.args in
    let L = c.loop-q in
    let S = block_form a.session.now in (
      omega arith,
      put_goes_on L.invariant.1 (links_left S a.j 16 (4 * (L.q + 1))) (fours_step S a.j L.q (omega arith)) c.put_some-end.ensures,
    )

pub returns : goal.returns
returns c =
    let a = c.args in
    put_ends c.loop-q.invariant.1 (links_end (block_form a.session.now) a.j (omega arith))
