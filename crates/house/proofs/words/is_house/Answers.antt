-- `house::words::is_house` meets its contract: the bytes of its words, and 32 behind them, are the house table. That is computed, where the
-- definitions unfold in `returns`.
-- Assumes nothing.
use mathlib.Core.Path.{sym}
use native.Mathlib.Omega.{arith}
use lib.Seq.{length-take-le}
use Rattle.house.specs.Meets.{house_table}
use Rattle.house.specs.Words.{bytes_of}
use Rattle.house.proofs.Bytes.{joined}
use borrow.Author.Tests.{eqb-true}
use Rattle.house.proofs.words.is_house.Goals as goal

pub slice_bounds-differing-end : goal.slice_bounds-differing-end
slice_bounds-differing-end c =
    let s = c in sym (length-take-le _ s.args.table.now (omega (arith, s.requires)))

pub returns : goal.returns
unfolding house_table bytes_of
returns c =
    let upper = c in
    let lower = upper in
    let s = lower in
    λ e.
    joined {x = c.from.result} 32 s.requires lower.differing.ensures upper.differing-2.ensures (omega (arith, c.from.ensures))
    (eqb-true _ _ e)
