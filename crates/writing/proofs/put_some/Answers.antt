-- `writing::put_some` meets its contract: where none of the four is known there is nothing to put.
-- Assumes nothing.
use Rattle.writing.proofs.Putting.{nothing_put}
use Rattle.writing.proofs.put_some.Goals as goal

pub returns-then-none_of_four : goal.returns-then-none_of_four
returns-then-none_of_four c =
    let a = c.args in
    nothing_put a.at a.to.now (c.none_of_four.ensures c.if-none_of_four.true)
