-- The measure of `lines::Line::with_decimal`: the number, of which a tenth is written first.
-- Assumes nothing.
use Rattle.lines.proofs.Line.+with_decimal.Given as goal

abbrev pub decreases-with_decimal : goal.decreases-with_decimal
decreases-with_decimal l = l.x
