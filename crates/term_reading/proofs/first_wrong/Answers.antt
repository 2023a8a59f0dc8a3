-- `term_reading::first_wrong` meets its contract: the first number out of range stays the first.
-- Assumes nothing.
use mathlib.Core.Path.{sym, ◌∙◌}
use Rattle.term_reading.proofs.Segments.{still_first, earlier_first, now_first}
use Rattle.term_reading.proofs.first_wrong.Goals as goal
use Rattle.term_reading.proofs.first_wrong.Goals.{then-x-limit-via-then-x-limit, then-x-limit-via-else-x-limit+then-is_some}

pub returns-then-x-limit : goal.returns-then-x-limit
returns-then-x-limit c =
    let a = c.args in
    elim c.then-x-limit.branch [
      | then-x-limit-via-then-x-limit w ↦ still_first a.wrong a.x a.limit a.at w.if-x-limit.true
      | then-x-limit-via-else-x-limit+then-is_some w ↦ earlier_first a.wrong _ (sym w.is_some.ensures ∙ w.if-is_some.true)
    ]

pub returns : goal.returns
returns c = let a = c.args in now_first a.wrong a.x a.limit a.at c.if-x-limit.false (sym c.is_some.ensures ∙ c.if-is_some.false)
