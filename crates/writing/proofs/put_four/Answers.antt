-- `writing::put_four` meets its contract: what is written, and the links from k on that are left to write.
-- Assumes nothing.
use Prim.Native.Nat.{◌+◌}
use native.Mathlib.Omega.{arith}
use Rattle.joints.specs.Layout.{block_form}
use Rattle.writing.specs.Putting.{link_bytes}
use Rattle.writing.proofs.Putting.{put_room, put_goes_on, put_ends, links_left, links_step, links_end}
use Rattle.writing.proofs.put_four.Goals as goal

pub put_link-end-requires : goal.put_link-end-requires
put_link-end-requires c = let s = c in
    let L = c.loop-k in
    let S = block_form s.args.session.now in
    put_room L.invariant.2 (link_bytes s.args.j L.k c.link_at-c.result) (links_left S s.args.j (s.args.l + 4) (L.k + 1))
    (links_step S s.args.j (s.args.l + 4) L.k (omega arith) c.link_at-c.ensures) s.requires.2

pub loop-k-preserved : goal.loop-k-preserved
loop-k-preserved c = let s = c in
    let L = c.loop-k in
    let S = block_form s.args.session.now in (
      omega arith,
      L.invariant.1,
      put_goes_on L.invariant.2 (links_left S s.args.j (s.args.l + 4) (L.k + 1))
          (links_step S s.args.j (s.args.l + 4) L.k (omega arith) c.link_at-c.ensures) c.put_link-end.ensures,
    )

pub returns : goal.returns
returns c = let s = c in
    put_ends c.loop-k.invariant.2 (links_end (block_form s.args.session.now) s.args.j (omega arith))
