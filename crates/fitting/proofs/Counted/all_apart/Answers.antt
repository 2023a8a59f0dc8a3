-- `fitting::Counted::all_apart` meets its contract: the three parts, in turn.
-- Assumes nothing.
use Rattle.std.proofs.Common.{sym, ◌∙◌}
use Rattle.std.proofs.lemmas.Bool.{both_ways}
use Rattle.fitting.proofs.Apart.{apart_fits}
use Rattle.fitting.proofs.Counted.all_apart.Goals as goal
use Rattle.fitting.proofs.Counted.all_apart.Goals.{then-classes_apart, else-classes_apart}

pub returns-then-kinds_apart : goal.returns-then-kinds_apart
returns-then-kinds_apart c = λ e.
    elim c.if-classes_apart.branch [
      | then-classes_apart w ↦
          apart_fits (c.classes_apart.ensures w.if-classes_apart.true) (w.kinds_apart.ensures (sym w.value-is ∙ c.if-kinds_apart.true))
          (c.links_apart.ensures e) c.args.self.now.in_range.0
      | else-classes_apart w ↦ absurd (both_ways _ w.if-classes_apart.false (sym w.value-is ∙ c.if-kinds_apart.true))
    ]
