-- `made_one` meets its contract: two nodes of one class are one, and two classes are joined.
-- Assumes nothing.
use native.Mathlib.Omega.{arith}
use Rattle.solver.specs.Unpacked.{Lent}
use Rattle.solver.proofs.Run.{pair_joinable, alone_taken}
use Rattle.solver.proofs.OneFact.{named_alone}
use borrow.Author.Rules.{rules}
use Rattle.solver.proofs.Solved.made_one.Goals as goal

pub returns : goal.returns
returns c =
    let p = c.requires in
    let k : Lent c.args.self.now.class c.args.self.now.kind c.args.rows.now = record { class_size = search rules; kind_size = search rules; rows_sized = search rules } in
    let o = c.in_order-o.ensures in
    let q = pair_joinable p.ready.0 k p.lent.0 p.lent.1 o in
    let j = c.joined_alone.ensures in (
      record { taken = λ e. alone_taken p.ready.0 p.lent.0 p.lent.1 o (rw e at j); kept = j.kept },
      named_alone _ q.less (omega (arith, q.high_smallest.0, q.nodes)) j p.ready.1,
    )
