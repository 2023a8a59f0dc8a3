-- `with_same` meets its contract: the form and the pairs mean, at each turn, what the first form and the fact do.
-- Assumes nothing.
use native.Mathlib.Omega.{arith}
use borrow.Author.Rules.{rules}
use mathlib.Core.Path.{◌≡◌, refl}
use Rattle.std.proofs.lemmas.Result.{MatchResult-from_err}
use Rattle.solver.proofs.Run.{run_start, run_done, run_skip, run_clash, run_join, run_falls}
use Rattle.solver.proofs.Takes.{took_refuted}
use Rattle.solver.proofs.Solved.with_same.Goals as goal

pub loop-size-init : goal.loop-size-init
loop-size-init c = (refl, search rules, search rules, search rules, run_start c.requires.0.well c.requires.1 c.requires.2 refl)

pub loop-size-preserved-then-a-b : goal.loop-size-preserved-then-a-b
loop-size-preserved-then-a-b c =
    let i = c.loop-size.invariant in
    (i.0, i.1, i.2, i.3, run_skip c.requires.0 i.4 (omega arith) c.if-a-b.true)

pub returns-in_err-size : goal.returns-in_err-size
returns-in_err-size c =
    let none = rw c.in_err-size.was at c.join_step.ensures in
    let e = c.from_residual.ensures.0 in (
      took_refuted _ _ _ e (run_clash c.requires.0 c.loop-size.invariant.4 c.loop-size-test.true c.in_order-o.ensures none),
      MatchResult-from_err _ _ _ e (λ _. tt),
    )

pub loop-size-smaller : goal.loop-size-smaller
loop-size-smaller c =
    let done = rw c.in_ok-size.was at c.join_step.ensures in
    run_falls c.requires.0 c.loop-size.invariant.4 c.loop-size-test.true c.in_order-o.ensures done

pub loop-size-preserved : goal.loop-size-preserved
loop-size-preserved c =
    let done = rw c.in_ok-size.was at c.join_step.ensures in (
      search rules,
      search rules,
      search rules,
      search rules,
      run_join c.requires.0 c.loop-size.invariant.4 c.loop-size-test.true c.in_order-o.ensures done,
    )

pub returns : goal.returns
returns c =
    let l = c.loop-size in
    let e : l.size ≡ 0 = omega arith in
    (run_done (rw e at l.invariant.4), refl)
