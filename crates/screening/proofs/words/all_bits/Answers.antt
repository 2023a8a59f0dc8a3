-- `screening::words::all_bits` meets its contract. At an index, the bits of the facts before it are gathered.
-- Assumes nothing.
use mathlib.Core.Path.{refl}
use native.Mathlib.Omega.{arith}
use Rattle.screening.proofs.Clear.{word_moved, more_gathered}
use Rattle.screening.proofs.words.all_bits.Goals as goal

pub loop-fact-preserved : goal.loop-fact-preserved
loop-fact-preserved c =
    let l = c.loop-fact in
    let facts = c.facts-fact-items.ensures in
    more_gathered l.invariant refl (word_moved (facts.each l.fact-index (omega (arith, facts.count, c.loop-fact-test.true))) c.word_of.ensures) c.bits-any.ensures

pub returns : goal.returns
returns c =
    let facts = c.facts-fact-items.ensures in
    λ e i h. c.loop-fact.invariant.clear e i (omega (arith, facts.count, c.loop-fact-test.false))
