-- `writing::put_header` meets its contract: of two bytes, the first is the high one.
-- Assumes nothing.
use Rattle.std.proofs.Common.{◌≡◌, ◌∙◌, ◌/◌, ◌%◌, arith}
use Rattle.writing.proofs.Putting.{whole}
use Rattle.writing.proofs.put_header.Goals as goal

pub returns : goal.returns
returns c =
    let high : c.args.l / 256 % 256 ≡ c.args.l / 256 = omega arith in
    whole c.put.ensures ∙ rw (c.to_be_bytes.ensures, c.put.ensures.ends, high)
