-- `fitting::rises` meets its contract. At j, the bits in which the bytes below j differ from the numbers below j are gathered.
-- Assumes nothing.
use Rattle.std.proofs.Common.{length}
use Rattle.runs.specs.Runs.{each}
use Rattle.runs.proofs.Loops.{Comparing}
use Rattle.fitting.proofs.rises.Given as goal

abbrev pub invariant-loop-j : goal.invariant-loop-j
invariant-loop-j l = Comparing l.part (each (λ k. k) 0 (length l.part)) l.j l.any
