-- `term_writing::all_accounted` meets its contract: `all` looks at the joints below v.
-- Assumes nothing.
use Rattle.std.proofs.Common.{refl, rules, tests, arith}
use Rattle.std.proofs.lemmas.Iterator.{cases_from_all, YieldsList-from_range}
use Rattle.joints.specs.Layout.{block_form}
use Rattle.term_writing.specs.Visiting.{Accounted, Missed}
use Rattle.term_writing.proofs.Answers.{all_below}
use Rattle.term_writing.proofs.all_accounted.Goals as goal

pub returns : goal.returns
returns c =
    let S = block_form c.args.session.now in
    let seen = c.args.seen.now in
    let v = c.args.v in
    all_below _ v _ _
    (cases_from_all _ _ _ (Accounted S seen) (Missed S seen) c.all.ensures.ran (YieldsList-from_range 0 v v refl (omega arith))
    (λ x q k. search (rules, tests)) (λ x q k. search (rules, tests)))
