-- `screening::packet_reply` meets its contract: each test has the outcome of the definition's, in its order.
-- Assumes nothing.
use mathlib.Core.Path.{◌≡◌, sym, ◌∙◌}
use mathlib.Core.Logic.{◌≢◌}
use mathlib.Core.Bool.{true}
use mathlib.Core.List.{List, [], ◌∷◌}
use Prim.Native.Nat.{ℕ}
use native.Mathlib.Omega.{arith}
use lib.Dec.{eqb}
use borrow.Author.Tests.{eq-eqb, ne_eqb}
use Rattle.replies.specs.declared.Cause.TheVariants.{BadVersion, BadHeader, BadCount}
use Rattle.replies.specs.Replies.{unless, first_refusal, Reply}
use Rattle.replies.proofs.Laws.{first_of_two, test_here, test_next}
use Rattle.packets.specs.Packet.{byte, ties, joints}
use Rattle.screening.specs.declared.Wanted.{Wanted}
use Rattle.runs.specs.Runs.{within}
use Rattle.screening.specs.Screening.{length_fits, count_fits, first_bad_tie, first_bad_fact, packet_reply}
use Rattle.screening.proofs.packet_reply.Goals as goal

-- what is left of the replies where the tests so far are passed
module _ (w : Wanted) (n v : ℕ) (p : List ℕ) where
  abbrev parts : List Reply
  parts = first_bad_tie v p ∷ []

  abbrev from_6 : List Reply
  from_6 = unless (count_fits p) BadCount 0 ∷ parts

  abbrev from_5 : List Reply
  from_5 = unless (within w.joints.from w.joints.to (joints p)) BadHeader 5 ∷ from_6

  abbrev from_4 : List Reply
  from_4 = unless (within w.ties.from w.ties.to (ties p)) BadHeader 4 ∷ from_5

  abbrev from_3 : List Reply
  from_3 = unless (eqb (byte p 3) w.purpose) BadHeader 3 ∷ from_4

  abbrev from_2 : List Reply
  from_2 = unless (eqb (byte p 2) 1) BadVersion 2 ∷ from_3

  abbrev Left : List Reply → Type 0
  Left rs = packet_reply w n v p ≡ first_refusal rs (first_bad_fact n p)

  past_1 : length_fits p ≡ true → Left from_2
  unfolding packet_reply
  past_1 e = test_next _ _ _ _ _ e

  past_2 : Left from_2 → eqb (byte p 2) 1 ≡ true → Left from_3
  past_2 l e = l ∙ test_next _ _ _ _ _ e

  past_3 : Left from_3 → eqb (byte p 3) w.purpose ≡ true → Left from_4
  past_3 l e = l ∙ test_next _ _ _ _ _ e

  past_4 : Left from_4 → within w.ties.from w.ties.to (ties p) ≡ true → Left from_5
  past_4 l e = l ∙ test_next _ _ _ _ _ e

  past_5 : Left from_5 → within w.joints.from w.joints.to (joints p) ≡ true → Left from_6
  past_5 l e = l ∙ test_next _ _ _ _ _ e

  past_6 : Left from_6 → count_fits p ≡ true → Left parts
  past_6 l e = l ∙ test_next _ _ _ _ _ e

pub returns-then-not-length_fits : goal.returns-then-not-length_fits
unfolding packet_reply
returns-then-not-length_fits c =
    sym (test_here _ _ _ _ _ (sym c.length_fits.ensures ∙ c.if-not-length_fits.true))

pub returns-then-version-ne1 : goal.returns-then-version-ne1
returns-then-version-ne1 c =
    let l1 = past_1 c.args.w c.args.n c.args.v c.args.packet.now (sym c.length_fits.ensures ∙ c.if-not-length_fits.false) in
    let version : byte c.args.packet.now 2 ≢ 1 = λ e. omega (arith, rw c.of-packet.ensures at c.version.ensures, e) in
    sym (l1 ∙ test_here _ _ _ _ _ (ne_eqb _ _ version))

pub returns-then-purpose-w : goal.returns-then-purpose-w
returns-then-purpose-w c =
    let l1 = past_1 c.args.w c.args.n c.args.v c.args.packet.now (sym c.length_fits.ensures ∙ c.if-not-length_fits.false) in
    let version : byte c.args.packet.now 2 ≡ 1 = omega (arith, rw c.of-packet.ensures at c.version.ensures) in
    let l2 = past_2 c.args.w c.args.n c.args.v c.args.packet.now l1 (eq-eqb _ _ version) in
    sym (l2 ∙ test_here _ _ _ _ _ (ne_eqb _ _ (λ e. c.if-purpose-w.true (rw c.of-packet.ensures at c.purpose.ensures ∙ e))))

pub returns-then-not-has : goal.returns-then-not-has
returns-then-not-has c =
    let l1 = past_1 c.args.w c.args.n c.args.v c.args.packet.now (sym c.length_fits.ensures ∙ c.if-not-length_fits.false) in
    let version : byte c.args.packet.now 2 ≡ 1 = omega (arith, rw c.of-packet.ensures at c.version.ensures) in
    let l2 = past_2 c.args.w c.args.n c.args.v c.args.packet.now l1 (eq-eqb _ _ version) in
    let l3 = past_3 c.args.w c.args.n c.args.v c.args.packet.now l2 (eq-eqb _ _ (rw c.of-packet.ensures at (sym c.purpose.ensures ∙ c.if-purpose-w.false))) in
    sym (l3 ∙ test_here _ _ _ _ _ (rw (c.tie_count.ensures.0, c.of-packet.ensures) at (sym c.has.ensures ∙ c.if-not-has.true)))

pub returns-then-not-has-2 : goal.returns-then-not-has-2
returns-then-not-has-2 c =
    let l1 = past_1 c.args.w c.args.n c.args.v c.args.packet.now (sym c.length_fits.ensures ∙ c.if-not-length_fits.false) in
    let version : byte c.args.packet.now 2 ≡ 1 = omega (arith, rw c.of-packet.ensures at c.version.ensures) in
    let l2 = past_2 c.args.w c.args.n c.args.v c.args.packet.now l1 (eq-eqb _ _ version) in
    let l3 = past_3 c.args.w c.args.n c.args.v c.args.packet.now l2 (eq-eqb _ _ (rw c.of-packet.ensures at (sym c.purpose.ensures ∙ c.if-purpose-w.false))) in
    let l4 = past_4 c.args.w c.args.n c.args.v c.args.packet.now l3 (rw (c.tie_count.ensures.0, c.of-packet.ensures) at (sym c.has.ensures ∙ c.if-not-has.false)) in
    sym (l4 ∙ test_here _ _ _ _ _ (rw (c.joint_count.ensures.0, c.of-packet.ensures) at (sym c.has-2.ensures ∙ c.if-not-has-2.true)))

pub returns-then-not-count_fits : goal.returns-then-not-count_fits
returns-then-not-count_fits c =
    let l1 = past_1 c.args.w c.args.n c.args.v c.args.packet.now (sym c.length_fits.ensures ∙ c.if-not-length_fits.false) in
    let version : byte c.args.packet.now 2 ≡ 1 = omega (arith, rw c.of-packet.ensures at c.version.ensures) in
    let l2 = past_2 c.args.w c.args.n c.args.v c.args.packet.now l1 (eq-eqb _ _ version) in
    let l3 = past_3 c.args.w c.args.n c.args.v c.args.packet.now l2 (eq-eqb _ _ (rw c.of-packet.ensures at (sym c.purpose.ensures ∙ c.if-purpose-w.false))) in
    let l4 = past_4 c.args.w c.args.n c.args.v c.args.packet.now l3 (rw (c.tie_count.ensures.0, c.of-packet.ensures) at (sym c.has.ensures ∙ c.if-not-has.false)) in
    let l5 = past_5 c.args.w c.args.n c.args.v c.args.packet.now l4 (rw (c.joint_count.ensures.0, c.of-packet.ensures) at (sym c.has-2.ensures ∙ c.if-not-has-2.false)) in
    sym (l5 ∙ test_here _ _ _ _ _ (rw c.of-packet.ensures at (sym c.count_fits.ensures ∙ c.if-not-count_fits.true)))

pub returns : goal.returns
returns c =
    let l1 = past_1 c.args.w c.args.n c.args.v c.args.packet.now (sym c.length_fits.ensures ∙ c.if-not-length_fits.false) in
    let version : byte c.args.packet.now 2 ≡ 1 = omega (arith, rw c.of-packet.ensures at c.version.ensures) in
    let l2 = past_2 c.args.w c.args.n c.args.v c.args.packet.now l1 (eq-eqb _ _ version) in
    let l3 = past_3 c.args.w c.args.n c.args.v c.args.packet.now l2 (eq-eqb _ _ (rw c.of-packet.ensures at (sym c.purpose.ensures ∙ c.if-purpose-w.false))) in
    let l4 = past_4 c.args.w c.args.n c.args.v c.args.packet.now l3 (rw (c.tie_count.ensures.0, c.of-packet.ensures) at (sym c.has.ensures ∙ c.if-not-has.false)) in
    let l5 = past_5 c.args.w c.args.n c.args.v c.args.packet.now l4 (rw (c.joint_count.ensures.0, c.of-packet.ensures) at (sym c.has-2.ensures ∙ c.if-not-has-2.false)) in
    let l6 = past_6 c.args.w c.args.n c.args.v c.args.packet.now l5 (rw c.of-packet.ensures at (sym c.count_fits.ensures ∙ c.if-not-count_fits.false)) in
    rw c.of-packet.ensures at (first_of_two c.first_bad_tie.ensures c.first_bad_fact.ensures c.and.ensures) ∙ sym l6
