-- `fitting::Counted::classes_apart` meets its contract: the classes rise, and behind them all is zero.
-- Assumes nothing.
use Rattle.std.proofs.Common.{sym, ◌∙◌}
use Rattle.fitting.proofs.Apart.{split, classes_apart}
use Rattle.fitting.proofs.Counted.classes_apart.Goals as goal

pub returns-then-rises : goal.returns-then-rises
returns-then-rises c =
    let s = c.args.self.now in
    let parts = split s.v c.classes.ensures.bytes c.split_at.ensures.front_len c.split_at.ensures.front c.split_at.ensures.back in
    λ e. classes_apart s.session.now s.v parts (c.rises.ensures c.if-rises.true) (sym c.is_zero.ensures ∙ e)
