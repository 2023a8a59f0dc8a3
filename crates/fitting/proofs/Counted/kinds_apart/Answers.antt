-- `fitting::Counted::kinds_apart` meets its contract: the highest kind less 1 is in range, and behind the kinds all is zero.
-- Assumes nothing.
use Rattle.std.proofs.Common.{sym, ◌∙◌, rules}
use Rattle.fitting.proofs.Apart.{split, kinds_apart}
use Rattle.fitting.proofs.Counted.kinds_apart.Goals as goal

pub returns-then-most-self : goal.returns-then-most-self
returns-then-most-self c =
    let s = c.args.self.now in
    let parts = split s.v c.kinds.ensures.bytes c.split_at.ensures.front_len c.split_at.ensures.front c.split_at.ensures.back in
    λ e. kinds_apart s.session.now s.v parts c.highest.ensures (search rules) (search rules) (sym c.is_zero.ensures ∙ e)
