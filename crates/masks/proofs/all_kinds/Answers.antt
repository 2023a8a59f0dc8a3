-- `masks::all_kinds` meets its contract: no entry is larger than the largest.
-- Assumes nothing.
use Rattle.std.proofs.Common.{rules, subst}
use Rattle.std.proofs.lemmas.Fn.{fold_over, slice_gives, fronts}
use Rattle.masks.proofs.Chains.{Bounded, none_bounded, bounded}
use Rattle.masks.proofs.all_kinds.Goals as goal

pub returns : goal.returns
returns c e p h =
    let most = subst (λ l. Bounded l c.fold-most.result) c.iter.ensures.rest
    (fold_over fronts (λ x. x.now) _ (λ ys most. Bounded ys most) _
    (λ ys most x more f' j k. let next = bounded ys {x = x.now} {most = most} {more = more} j in search rules)
    _ _ _ _ (slice_gives c.iter.result) (none_bounded _) c.fold-most.ensures.ran) in
    let at = most.bound p in
    search rules
