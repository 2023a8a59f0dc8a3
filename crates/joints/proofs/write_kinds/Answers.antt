-- `joints::write_kinds` meets its contract: ones, then zeros.
-- Assumes nothing.
use Rattle.std.proofs.Common.{◌∙◌, ap, ◌++◌, ◌-◌, ℕ, replicate}
use Rattle.joints.proofs.Fresh.{ones_then_zeros}
use Rattle.joints.proofs.write_kinds.Goals as goal

pub returns : goal.returns
returns c = c.fill_front.ensures ∙ ap (λ (m : ℕ). replicate c.args.v 1 ++ replicate (m - c.args.v) 0) c.requires.0 ∙ ones_then_zeros _ c.requires.1
