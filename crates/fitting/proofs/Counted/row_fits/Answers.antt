-- `fitting::Counted::row_fits` meets its contract.
-- Assumes nothing.
use Rattle.std.proofs.Common.{◌≡◌, true, false, refl, rules}
use borrow.Author.Tests.{tests}
use Rattle.std.proofs.lemmas.Iterator.{YieldsList-from_range, cases_from_all}
use Rattle.joints.specs.Layout.{block_form}
use Rattle.fitting.specs.Fits.{link_fits}
use Rattle.fitting.proofs.Checks.{each_asked}
use Rattle.fitting.proofs.Counted.row_fits.Goals as goal

pub returns : goal.returns
returns c =
    let s = c.args.self.now in
    let fits = link_fits s.v (block_form s.session.now) c.args.j in
    each_asked fits 16
    (cases_from_all _ _ _ (λ l. fits l ≡ true) (λ l. fits l ≡ false) c.all.ensures.ran (YieldsList-from_range 0 16 16 refl refl)
    (λ x q k. search (rules, tests)) (λ x q k. search (rules, tests)))
