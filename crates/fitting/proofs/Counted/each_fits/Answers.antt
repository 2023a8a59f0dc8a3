-- `fitting::Counted::each_fits` meets its contract.
-- Assumes nothing.
use Rattle.std.proofs.Common.{◌≡◌, true, false, refl, rules}
use borrow.Author.Tests.{tests}
use Rattle.std.proofs.lemmas.Iterator.{YieldsList-from_range, cases_from_all}
use Rattle.joints.specs.Layout.{block_form}
use Rattle.fitting.specs.Fits.{joint_fits}
use Rattle.fitting.proofs.Checks.{each_asked}
use Rattle.fitting.proofs.Counted.each_fits.Goals as goal

pub returns : goal.returns
returns c =
    let s = c.args.self.now in
    let fits = joint_fits s.n s.v (block_form s.session.now) in
    each_asked fits 64
    (cases_from_all _ _ _ (λ j. fits j ≡ true) (λ j. fits j ≡ false) c.all.ensures.ran (YieldsList-from_range 0 64 64 refl refl)
    (λ x q k. search (rules, tests)) (λ x q k. search (rules, tests)))
