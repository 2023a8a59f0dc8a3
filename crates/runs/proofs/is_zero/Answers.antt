-- `runs::is_zero` meets its contract: the bits of all bytes are gathered.
-- Assumes nothing.
use Rattle.std.proofs.Common.{rules, ◌≡◌, refl, subst, nat_eq}
use Rattle.std.proofs.lemmas.Fn.{fold_over, slice_gives, fronts}
use Rattle.runs.specs.Runs.{all_zero}
use Rattle.runs.proofs.Loops.{gathered}
use Rattle.runs.proofs.is_zero.Goals as goal

pub returns : goal.returns
unfolding all_zero
returns c = subst (λ l. nat_eq c.fold.result 0 ≡ all_zero l) c.iter.ensures.rest
    (fold_over fronts (λ x. x.now) _ (λ ys any. nat_eq any 0 ≡ all_zero ys) _ (λ ys any x b f' j k. let more = gathered ys any x.now j in search rules)
    _ _ _ _ (slice_gives c.iter.result) refl c.fold.ensures.ran)
