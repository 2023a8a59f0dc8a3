-- `screening::Filled::find_bad_fact` meets its contract: of at most 1,088 facts each begins below 2 ^ 32.
-- Assumes nothing.
use native.Mathlib.Omega.{arith}
use Rattle.screening.proofs.Filled.find_bad_fact.Goals as goal

pub first_unfit-requires-clause-inside : goal.first_unfit-requires-clause-inside
first_unfit-requires-clause-inside c = λ i h. omega (arith, c.self.invariant.few, c.fact_count.ensures, c.fact_at.ensures.1)
