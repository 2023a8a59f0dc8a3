-- `unpacking::unpack` meets its contract: joints and free nodes are put in front of zeros, each of the three parts.
-- Assumes nothing.
use mathlib.Core.Path.{refl, ap}
use Prim.Native.Nat.{ℕ}
use lib.ListN.{length, length-replicate}
use Rattle.solver.specs.Unpacked.{rows_size}
use Rattle.unpacking.proofs.Unpacking.{unpacked}
use native.Mathlib.Omega.{arith}
use Rattle.unpacking.proofs.unpack.Goals as goal

pub put_nodes-requires-2 : goal.put_nodes-requires-2
put_nodes-requires-2 c = (
  omega arith,
  omega (arith, ap length c.requires.fact_2, length-replicate {A = ℕ} rows_size 0),
  omega (arith, c.rows.ensures.size),
)

pub returns : goal.returns
returns c = (
  unpacked c.args.session.now _ _ _ c.args.v c.args.k (rw c.classes.ensures.bytes at c.put_classes.ensures)
      (rw c.kinds.ensures.bytes at c.put_nodes.ensures) (rw (c.rows.ensures.bytes, c.requires.fact_2) at c.put_nodes-2.ensures),
  refl,
)
