-- `term_reading::read_link` meets its contract: a missing digit or sign is where nothing can continue the text.
-- Assumes nothing.
use mathlib.Core.Path.{sym, subst}
use Rattle.terms.specs.Language.{NoTerm}
use Rattle.term_reading.proofs.Contexts.{stuck_at_link, stuck_at_equals, stuck_at_greater}
use Rattle.term_reading.proofs.Steps.{handed_on, link_step}
use Rattle.term_reading.proofs.read_link.Goals as goal

pub returns-in_err-link : goal.returns-in_err-link
returns-in_err-link c =
    let a = c.args in
    let missing = c.in_err-link.ensures.is in
    handed_on _ c.from_residual.ensures.1
    (λ around w. subst (NoTerm a.text.now) (sym missing.1) (stuck_at_link a.text.now around a.from.at w c.requires.inside missing.0))

pub returns-in_err-expect_sign : goal.returns-in_err-expect_sign
returns-in_err-expect_sign c =
    let a = c.args in
    let missing = c.in_err-expect_sign.ensures in
    handed_on _ c.from_residual-in_err-expect_sign.ensures.1
    (λ around w. subst (NoTerm a.text.now) (sym missing.1) (stuck_at_equals a.text.now around a.from.at w _ _ c.in_ok-link.ensures.is missing.0))

pub returns-in_err-expect_sign-2 : goal.returns-in_err-expect_sign-2
returns-in_err-expect_sign-2 c =
    let a = c.args in
    let missing = c.in_err-expect_sign-2.ensures in
    handed_on _ c.from_residual-in_err-expect_sign-2.ensures.1
    (λ around w.
    subst (NoTerm a.text.now) (sym missing.1)
    (stuck_at_greater a.text.now around a.from.at w _ _ c.in_ok-link.ensures.is c.in_ok-expect_sign.ensures missing.0))

pub returns : goal.returns
returns c =
    record {
      is =
          link_step c.args.text.now c.args.from c.requires _ _ _ c.in_ok-link.ensures.is c.in_ok-expect_sign.ensures
          c.in_ok-expect_sign-2.ensures c.first_wrong.ensures;
    }
