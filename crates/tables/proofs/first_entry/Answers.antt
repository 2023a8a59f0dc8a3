-- `tables::first_entry` meets its contract. At p, the reply is that to the entries from p on.
-- Assumes nothing.
use mathlib.Core.Path.{refl, sym, ◌∙◌}
use native.Mathlib.Omega.{arith}
use lib.ListN.{get_or}
use borrow.Author.Tests.{lt-ltb, le-ltb}
use Rattle.tables.specs.Check.{law_reply, entries}
use Rattle.tables.proofs.Scan.{begins, passed, failed, kept, broken, closes, no_more}
use Rattle.tables.proofs.first_entry.Goals as goal

pub loop-p-init : goal.loop-p-init
unfolding entries
loop-p-init c = (omega arith, c.args.table.sized.size, begins _ _ _ _)

pub loop-p-preserved : goal.loop-p-preserved
unfolding law_reply
loop-p-preserved c = let l = c.loop-p in
    let s = c.args in
    (omega arith, l.invariant.1, kept l.invariant.2 (omega arith) refl (passed _ _ (lt-ltb (get_or s.table.entries.now l.p 0) s.table.n (omega arith))))

pub returns-then-table-from : goal.returns-then-table-from
unfolding law_reply
returns-then-table-from c = let l = c.loop-p in
    let s = c.args in
    sym (broken l.invariant.2 (omega arith) refl (failed _ _ (le-ltb (get_or s.table.entries.now l.p 0) s.table.n (omega arith))))

pub returns : goal.returns
returns c = sym (closes c.loop-p.invariant.2 (omega arith) ∙ no_more _ _)
