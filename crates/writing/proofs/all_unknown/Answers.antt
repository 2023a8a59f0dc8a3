-- `writing::all_unknown` meets its contract: four bytes that make the largest number are 255 each.
-- Assumes nothing.
use Rattle.std.proofs.Common.{◌≡◌, arith}
use borrow.Author.Tests.{eqb-true}
use Rattle.writing.proofs.all_unknown.Goals as goal

pub returns : goal.returns
returns c e =
    let largest : c.from_le_bytes.result ≡ 4294967295 = eqb-true _ _ e in
    let sum = rw c.copy_from_slice.ensures.after at c.from_le_bytes.ensures in
    let fits = c.type_inv.part in (
      omega (arith, sum, fits 0, fits 1, fits 2, fits 3),
      omega (arith, sum, fits 0, fits 1, fits 2, fits 3),
      omega (arith, sum, fits 0, fits 1, fits 2, fits 3),
      omega (arith, sum, fits 0, fits 1, fits 2, fits 3),
    )
