-- `scripts::flat_table` meets its contract. At p, the entries below p are stored.
-- Assumes nothing.
use mathlib.Core.Path.{ap, ◌∙◌, sym}
use Prim.Native.Nat.{ℕ, ◌%◌}
use native.Mathlib.Omega.{arith}
use borrow.Author.Rules.{rules}
use Rattle.runs.proofs.Loops.{none_stored, stored, all_stored}
use Rattle.runs.proofs.Each.{each_length, each_at}
use Rattle.scripts.specs.Rooms.{flat_entry}
use Rattle.scripts.proofs.flat_table.Goals as goal

pub loop-p-init : goal.loop-p-init
loop-p-init c = (omega arith, none_stored (each_length _ 0 5253) (search rules))

pub loop-p-preserved : goal.loop-p-preserved
loop-p-preserved c = (
  omega arith,
  stored c.loop-p.invariant.1 (omega arith)
      (ap (λ (x : ℕ). x % 256) c.flat_entry.ensures ∙ sym (each_at (λ p. flat_entry p c.args.n % 256) 5253 _ (omega arith))),
)

pub returns : goal.returns
returns c = all_stored c.loop-p.invariant.1 (omega arith)
