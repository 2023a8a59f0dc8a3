-- `lines::Line::with_number` meets its contract: the blank and the number are put one behind the other.
-- Assumes nothing.
use mathlib.Core.List.{[], ◌∷◌}
use native.Mathlib.Omega.{arith}
use Rattle.decimals.specs.Decimal.{longest_number}
use Rattle.lines.specs.Text.{blank}
use Rattle.decimals.proofs.Decimals.{length_digits}
use Rattle.lines.proofs.Puts.{size_of}
use Rattle.lines.proofs.Line.with_number.Goals as goal

pub with_decimal-requires : goal.with_decimal-requires
with_decimal-requires c = let s = c in omega (arith, s.requires, size_of s.args.self (blank ∷ []) c.with_byte.ensures, length_digits longest_number s.args.x)
