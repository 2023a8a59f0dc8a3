-- `term_reading::read_joint` meets its contract: a missing sign or digit is where nothing can continue the text.
-- Assumes nothing.
use mathlib.Core.Path.{sym, subst}
use Rattle.terms.specs.Language.{NoTerm}
use Rattle.term_reading.proofs.Contexts.{stuck_at_term, stuck_at_joint}
use Rattle.term_reading.proofs.Steps.{handed_on, joint_step}
use Rattle.term_reading.proofs.read_joint.Goals as goal

pub returns-in_err-expect_sign : goal.returns-in_err-expect_sign
returns-in_err-expect_sign c =
    let a = c.args in
    let missing = c.in_err-expect_sign.ensures in
    handed_on _ c.from_residual.ensures.1
    (λ around w. subst (NoTerm a.text.now) (sym missing.1) (stuck_at_term a.text.now around a.from.at w c.requires.inside missing.0))

pub returns-in_err-joint : goal.returns-in_err-joint
returns-in_err-joint c =
    let a = c.args in
    let missing = c.in_err-joint.ensures.is in
    handed_on _ c.from_residual-in_err-joint.ensures.1
    (λ around w. subst (NoTerm a.text.now) (sym missing.1) (stuck_at_joint a.text.now around a.from.at w c.in_ok-expect_sign.ensures missing.0))

pub returns : goal.returns
returns c =
    record {
      is =
          joint_step c.args.text.now c.args.from c.requires c.args.v _ _ _ c.in_ok-expect_sign.ensures c.in_ok-joint.ensures.is
          c.first_wrong.ensures;
    }
