-- The cycle of calls {read_arguments, read_term} meets its contracts: arguments link by link, a term from its head on.
-- Assumes nothing.
use mathlib.Core.Path.{sym, subst}
use native.Mathlib.Omega.{arith}
use Rattle.terms.specs.Language.{NoTerm}
use Rattle.term_reading.proofs.Steps.{handed_on}
use Rattle.term_reading.proofs.Terms.{goes_on, ends, breaks_off, inner_term, inner_nearer, next_nearer, deeper, awaited_deeper}
use Rattle.term_reading.proofs.Terms.{bare_read, too_deep, term_step, next_sound, next_awaited_arguments, arguments_nearer}
use Rattle.term_reading.proofs.Reader.+terms.Goals as goal

pub read_arguments-read_term-requires : goal.read_arguments-read_term-requires
read_arguments-read_term-requires t c =
    let g = c.loop-link.invariant in
    let link = c.in_ok-link.ensures.is c.args.self.now.n c.args.self.now.v in (
      omega (arith, c.decreases, inner_nearer g link),
      (link.sound, awaited_deeper (inner_term g link)),
    )

pub read_arguments-returns-then-stands : goal.read_arguments-returns-then-stands
read_arguments-returns-then-stands t c =
    let link = c.in_ok-link.ensures.is c.args.self.now.n c.args.self.now.v in
    record { is = ends c.loop-link.invariant link (deeper c.in_ok-end.ensures.is) c.passed.ensures c.if-stands.ensures }

pub read_arguments-returns-in_err-expect_sign : goal.read_arguments-returns-in_err-expect_sign
read_arguments-returns-in_err-expect_sign t c =
    let g = c.loop-link.invariant in
    let link = c.in_ok-link.ensures.is c.args.self.now.n c.args.self.now.v in
    let term = deeper c.in_ok-end.ensures.is in
    let missing = c.in_err-expect_sign.ensures in
    handed_on _ c.from_residual-in_err-expect_sign.ensures.1
    (subst (NoTerm c.args.self.now.text.now) (sym missing.1) (breaks_off g link term missing.0 c.if-stands.ensures))

pub read_arguments-loop-link-smaller : goal.read_arguments-loop-link-smaller
read_arguments-loop-link-smaller t c =
    let link = c.in_ok-link.ensures.is c.args.self.now.n c.args.self.now.v in
    next_nearer c.loop-link.invariant link (deeper c.in_ok-end.ensures.is) c.passed-front.ensures

pub read_arguments-loop-link-preserved : goal.read_arguments-loop-link-preserved
read_arguments-loop-link-preserved t c =
    let link = c.in_ok-link.ensures.is c.args.self.now.n c.args.self.now.v in
    goes_on c.loop-link.invariant link (deeper c.in_ok-end.ensures.is) c.passed-front.ensures c.in_ok-expect_sign.ensures

pub read_term-returns-in_err-joint : goal.read_term-returns-in_err-joint
read_term-returns-in_err-joint t c =
    handed_on _ c.from_residual.ensures.1 (c.in_err-joint.ensures.is _ c.requires.1)

pub read_term-returns-then-not-stands : goal.read_term-returns-then-not-stands
read_term-returns-then-not-stands t c =
    let a = c.args in
    record {
      is =
          bare_read a.self.now.text.now a.self.now.n a.self.now.v a.around a.lead a.from a.packet.now _ _ _ c.in_ok-joint.ensures.is c.requires.1.shallow
          c.if-not-stands.ensures;
    }

pub read_term-returns-then-around-eq15 : goal.read_term-returns-then-around-eq15
read_term-returns-then-around-eq15 t c =
    let head = c.in_ok-joint.ensures.is in
    let w = c.requires.1 in
    record { is = too_deep w head c.if-not-stands.ensures (omega (arith, w.shallow, c.if-around-eq15.true)) }

pub read_term-read_arguments-requires : goal.read_term-read_arguments-requires
read_term-read_arguments-requires t c =
    let w = c.requires.1 in
    let head = c.in_ok-joint.ensures.is in
    let h = c.if-not-stands.ensures in
    let e = c.passed.ensures in (
      omega (arith, c.decreases, arguments_nearer w head h e),
      (next_sound w head h e, next_awaited_arguments w head h e (λ q. omega (arith, q, c.if-around-eq15.false))),
    )

pub read_term-returns : goal.read_term-returns
read_term-returns t c =
    record {
      is =
          term_step c.requires.1 c.in_ok-joint.ensures.is c.if-not-stands.ensures c.passed.ensures c.read_arguments.result _
          c.read_arguments.ensures.is;
    }
