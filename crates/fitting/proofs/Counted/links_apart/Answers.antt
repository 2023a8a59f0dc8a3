-- `fitting::Counted::links_apart` meets its contract: the highest link and 1 is at most v, and behind the rows of the joints all is zero.
-- Assumes nothing.
use Rattle.std.proofs.Common.{◌*◌, sym, ◌∙◌, arith}
use Rattle.fitting.proofs.Apart.{split, links_apart}
use Rattle.fitting.proofs.Counted.links_apart.Goals as goal

pub returns-then-from-self : goal.returns-then-from-self
returns-then-from-self c =
    let s = c.args.self.now in
    let parts = split (16 * s.v) c.rows.ensures.bytes c.split_at.ensures.front_len c.split_at.ensures.front c.split_at.ensures.back in
    λ e. links_apart s.session.now s.v parts c.highest.ensures (omega (arith, c.from.ensures, c.if-from-self.true)) (sym c.is_zero.ensures ∙ e)
