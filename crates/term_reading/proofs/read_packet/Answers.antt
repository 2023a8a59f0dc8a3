-- `term_reading::read_packet` meets its contract: no term, or the answer of its packet.
-- Assumes nothing.
use mathlib.Core.Path.{refl, sym, ap, ◌∙◌}
use native.Mathlib.Omega.{arith}
use Rattle.std.specs.Prelude.{Err}
use Rattle.std.proofs.lemmas.Result.{err_from_is_err_and}
use Rattle.std.proofs.Common.{rules}
use Rattle.replies.specs.declared.Refusal.{Refusal}
use Rattle.term_reading.specs.Reading.TextAnswer.{no_term}
use Rattle.term_reading.proofs.Answers.{mapped_value, mapped_error, text_read}
use Rattle.term_reading.proofs.read_packet.Goals as goal

pub returns-in_err-end : goal.returns-in_err-end
returns-in_err-end c =
    let told = mapped_error _ c.read_whole-whole.result c.map_err.ensures.cases c.in_err-end.was in
    let back = err_from_is_err_and _ c.from_residual.ensures.1 in
    no_term told.0.0 (rw told.1 at c.read_whole-whole.ensures.is) (back.1 ∙ ap (λ (r : Refusal). Err r) (back.2 ∙ (search rules))) refl

pub returns : goal.returns
returns c =
    let kinds = c.kind_count.ensures in
    let joints = c.joint_count-v.ensures in
    rw (sym kinds.count, sym joints.count)
    (text_read (rw (mapped_value _ c.read_whole-whole.result c.map_err.ensures.cases c.in_ok-end.was) at c.read_whole-whole.ensures.is) (λ x. refl)
    (omega (arith, kinds.in_range.1)) (omega (arith, joints.in_range.1)) c.put_packet.ensures)
