-- `scripts::run` meets its contract: the letters so far are read, and their calls answered.
-- Assumes nothing.
use Rattle.std.proofs.Common.{arith, refl, subst}
use Rattle.scripts.specs.Scripts.{NextLetter}
use Rattle.scripts.proofs.Letters.{at_first, one_more, at_last, too_many}
use Rattle.scripts.proofs.run.Goals.{in-Called+in_ok-answer, in_default-part}
use Rattle.scripts.proofs.run.Goals as goal

pub loop-init : goal.loop-init
loop-init g c = at_first _ _ _ c.begun-script.ensures

pub loop-preserved : goal.loop-preserved
loop-preserved g c =
    one_more _ _ _ (omega arith) c.loop.invariant (subst (λ x. NextLetter x (g.R.Read.remaining c.loop.input) (g.R.Read.remaining c.next_letter.new.input)) c.in-Some.is c.in_ok-c.ensures)
    (record {
      read = c.in_ok-script.ensures.done;
      answered = λ e.
          elim c.match-script.branch [
            | in-Called+in_ok-answer w ↦ rw w.answer-is (_, _, _, refl, w.in_ok-answer.ensures)
            | in_default-part w ↦ absurd (w.in_default-part.not-Called e)
          ];
      kept = λ d.
          elim c.match-script.branch [
            | in-Called+in_ok-answer w ↦ absurd (d w.in-Called.is)
            | in_default-part w ↦ w.answer-is
          ];
    })

pub returns-in_default : goal.returns-in_default
returns-in_default g c = at_last _ _ _ (g.R.Read.remaining c.next_letter.new.input) c.loop.invariant (subst (λ x. NextLetter x (g.R.Read.remaining c.loop.input) (g.R.Read.remaining c.next_letter.new.input)) c.in_default.is c.in_ok-c.ensures)

pub returns : goal.returns
returns g c = too_many _ _ _ (omega arith) c.loop.invariant
