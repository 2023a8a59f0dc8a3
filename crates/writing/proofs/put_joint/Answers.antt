-- `writing::put_joint` meets its contract: the case of the class that was read.
-- Assumes nothing.
use Rattle.joints.specs.Layout.{block_form}
use Rattle.writing.proofs.Putting.{other_room, other_put, kind_room, links_room, smallest_put}
use Rattle.writing.proofs.put_joint.Goals as goal

pub put-requires : goal.put-requires
put-requires c =
    let a = c.args in
    other_room (block_form a.session.now) a.j a.at a.to.now c.class_at-class.ensures c.if-class-j.true c.requires.1

pub returns-then-class-j : goal.returns-then-class-j
returns-then-class-j c =
    let a = c.args in
    other_put (block_form a.session.now) a.j a.at a.to.now c.class_at-class.ensures c.if-class-j.true c.put.ensures

pub put_kind-behind-requires : goal.put_kind-behind-requires
put_kind-behind-requires c =
    let a = c.args in
    kind_room (block_form a.session.now) a.j a.at a.to.now c.class_at-class.ensures c.if-class-j.false c.kind_at-kind.ensures c.requires.1

pub put_links-requires : goal.put_links-requires
put_links-requires c =
    let a = c.args in (
      c.requires.0,
      links_room (block_form a.session.now) a.j a.at a.to.now
          c.class_at-class.ensures c.if-class-j.false c.kind_at-kind.ensures c.put_kind-behind.ensures c.requires.1,
    )

pub returns : goal.returns
returns c =
    let a = c.args in
    smallest_put (block_form a.session.now) a.j a.at a.to.now
    c.class_at-class.ensures c.if-class-j.false c.kind_at-kind.ensures c.put_kind-behind.ensures c.put_links.ensures
