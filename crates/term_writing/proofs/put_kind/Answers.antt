-- `term_writing::put_kind` meets its contract: a kind that is 1 is left out.
-- Assumes nothing.
use Rattle.std.proofs.Common.{◌≢◌, ◌∷◌, arith}
use Rattle.decimals.specs.Decimal.{decimal}
use Rattle.terms.specs.Term.{colon}
use Rattle.writing.proofs.Putting.{put_in}
use Rattle.term_writing.proofs.Texts.{both_put}
use Rattle.term_writing.proofs.put_kind.Goals as goal

pub returns : goal.returns
returns c =
    let a = c.args in
    let more : a.s ≢ 1 = omega arith in
    put_in (colon ∷ decimal a.s) a.at a.to.now more (both_put c.put-next.ensures c.put_number.ensures)
