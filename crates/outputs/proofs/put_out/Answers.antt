-- `outputs::put_out` meets its contract: the case of the output's length.
-- Assumes nothing.
use mathlib.Core.Path.{sym, ap, ◌∙◌}
use mathlib.Core.List.{List, ◌++◌}
use Prim.Native.Nat.{ℕ}
use lib.ListN.{length, drop}
use Rattle.outputs.proofs.Output.{too_short, has_room, none_put, all_put}
use Rattle.outputs.proofs.put_out.Goals as goal

pub returns-then-out-size : goal.returns-then-out-size
returns-then-out-size c = (sym (too_short _ _ c.if-out-size.true), none_put _ _ c.if-out-size.true)

pub returns : goal.returns
returns c =
    let a = c.args in (
      sym (has_room _ _ c.if-out-size.false),
      ap (λ (x : List ℕ). x ++ drop (length a.bytes.now) a.out.now) c.copy.ensures ∙ all_put _ _ c.if-out-size.false,
    )
