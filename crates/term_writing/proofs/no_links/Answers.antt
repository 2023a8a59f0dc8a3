-- `term_writing::no_links` meets its contract: `all` looks at the 16 links.
-- Assumes nothing.
use Rattle.std.proofs.Common.{◌≡◌, refl, rules, tests, arith}
use Rattle.std.proofs.lemmas.Iterator.{cases_from_all, YieldsList-from_range}
use Rattle.meaning.specs.Form.{unknown}
use Rattle.joints.specs.Layout.{block_form}
use Rattle.term_writing.proofs.Answers.{all_below}
use Rattle.term_writing.proofs.no_links.Goals as goal

pub returns : goal.returns
returns c =
    let link = (block_form c.args.session.now).link c.args.j in
    all_below _ 16 _ _
    (cases_from_all _ _ _ (λ l. link l ≡ unknown) (λ l. link l ≡ unknown → ⊥) c.all.ensures.ran (YieldsList-from_range 0 16 16 refl (omega arith))
    (λ x q k. search (rules, tests)) (λ x q k. search (rules, tests)))
