-- The goals of the cycle of calls {visit_argument, visit_arguments, visit_term} that the search leaves.
-- Assumes nothing.
use Rattle.std.proofs.Common.{◌≡◌, ℕ, suc, true, ◌-◌, ◌<◌, length, refl, subst, ◌∙◌, arith}
use Rattle.std.proofs.lemmas.Result.{MatchResult-weaker, MatchResult-from_err}
use lib.ListN.{length-set}
use Rattle.joints.specs.Layout.{block_form}
use Rattle.term_writing.specs.Tree.{Walk}
use Rattle.term_writing.specs.Visiting.{Failed}
use Rattle.term_writing.proofs.Visits.{link_failed, joint_failed, onward_failed, onward_too_deep, onward_met}
use Rattle.term_writing.proofs.Steps.{link_room_lem, link_left, head_room, head_left, closing_short}
use Rattle.term_writing.proofs.Steps.{known_told, none_told, told_at, four_told, more_told, joint_told}
use Rattle.term_writing.proofs.+visit_argument_visit_arguments_visit_term.Goals as goal
use Rattle.term_writing.proofs.+visit_argument_visit_arguments_visit_term.Goals.{visit_argument-then-below-eq0-via-then-below-eq0, visit_argument-then-below-eq0-via-else-below-eq0+then-seen-c}

-- one argument
pub visit_argument-returns-then-below-eq0 : goal.visit_argument-returns-then-below-eq0
visit_argument-returns-then-below-eq0 t c =
    let S = block_form c.args.session.now in
    elim c.then-below-eq0.branch [
      | visit_argument-then-below-eq0-via-then-below-eq0 w ↦ onward_too_deep S c.args.seen.now c.if-c-eq255.false w.if-below-eq0.true
      | visit_argument-then-below-eq0-via-else-below-eq0+then-seen-c w ↦ onward_met S c.args.seen.now c.if-c-eq255.false w.if-seen-c.true
    ]

pub visit_argument-put_link-next-requires : goal.visit_argument-put_link-next-requires
visit_argument-put_link-next-requires t c =
    let a = c.args in
    let r = c.requires.0 in
    let need = c.requires.1 in
    let inside : a.c < length a.seen.now = omega (arith, need.1 c.if-c-eq255.false, r.sound.few, r.seen_size) in (
      omega (arith, need.0),
      link_room_lem c.sign_before.result a.l a.at a.to.now a.seen.now need.0 inside c.if-seen-c.false need.2 r.to_size,
    )

pub visit_argument-visit_term-requires : goal.visit_argument-visit_term-requires
visit_argument-visit_term-requires t c =
    let r = c.requires.0 in
    let need = c.requires.1 in
    let p = c.put_link-next.ensures in (
      omega (arith, c.decreases, c.if-below-eq0.false),
      (
        record { sound = r.sound; to_size = p.size ∙ r.to_size; seen_size = r.seen_size },
        (need.1 c.if-c-eq255.false, c.if-seen-c.false, link_left c.args.seen.now need.0 p need.2),
      ),
    )

pub visit_argument-returns : goal.visit_argument-returns
visit_argument-returns t c =
    let a = c.args in
    let S = block_form a.session.now in
    let levels : suc (a.below - 1) ≡ a.below = omega (arith, c.if-below-eq0.false) in
    MatchResult-weaker c.visit_term.result c.visit_term.ensures
    (λ end told. known_told S a.from c.if-c-eq255.false c.requires.1.0 levels c.sign_before.ensures c.put_link-next.ensures told)
    (λ _ failed. onward_failed S a.seen.now c.if-c-eq255.false (subst (λ (n : ℕ). Failed (Walk S a.c) n a.seen.now) levels failed))

-- the arguments, one after the other
pub visit_arguments-loop-q-init : goal.visit_arguments-loop-q-init
visit_arguments-loop-q-init t c =
    let a = c.args in
    (refl, none_told (block_form a.session.now) a.below a.j a.from a.to.now a.seen.now)

pub visit_arguments-loop-q-preserved-then-none_of_four : goal.visit_arguments-loop-q-preserved-then-none_of_four
visit_arguments-loop-q-preserved-then-none_of_four t c =
    let a = c.args in
    let L = c.loop-q in
    (L.invariant.0, four_told (block_form a.session.now) a.below a.j (omega arith) (c.none_of_four.ensures c.if-none_of_four.true) L.invariant.1)

pub visit_arguments-returns-in_err-at : goal.visit_arguments-returns-in_err-at
visit_arguments-returns-in_err-at t c =
    let a = c.args in
    let L = c.loop-l in
    MatchResult-from_err c.from_residual.result _ _ c.from_residual.ensures.0
    (λ _. link_failed (block_form a.session.now) a.j L.l (omega arith) L.invariant.1.visited c.link_at-c.ensures c.in_err-at.ensures)

pub visit_arguments-loop-l-preserved : goal.visit_arguments-loop-l-preserved
visit_arguments-loop-l-preserved t c =
    let a = c.args in
    let L = c.loop-l in (
      c.visit_argument.auto.seen ∙ L.invariant.0,
      more_told (block_form a.session.now) a.below a.j (omega arith) c.link_at-c.ensures L.invariant.1 c.in_ok-at.ensures,
    )

pub visit_arguments-loop-q-preserved : goal.visit_arguments-loop-q-preserved
visit_arguments-loop-q-preserved t c =
    let a = c.args in
    let L = c.loop-l in
    (L.invariant.0, told_at (block_form a.session.now) a.below a.j (omega arith) L.invariant.1)

pub visit_arguments-returns : goal.visit_arguments-returns
visit_arguments-returns t c =
    let a = c.args in
    told_at (block_form a.session.now) a.below a.j (omega arith) c.loop-q.invariant.1

-- a joint
pub visit_term-put_head-from-requires : goal.visit_term-put_head-from-requires
visit_term-put_head-from-requires t c =
    let a = c.args in
    let r = c.requires.0 in
    let need = c.requires.1 in
    let few : a.j < 64 = omega (arith, need.0, r.sound.few) in
    let inside : a.j < length a.seen.now = omega (arith, need.0, r.sound.few, r.seen_size) in
    let small : c.kind_at-kind.result < 64 = omega (arith, c.kind_at-kind.ensures, r.sound.kinds a.j) in (
      omega (arith, few),
      omega (arith, small),
      head_room a.seen.now inside need.1 c.kind_at-kind.result a.at a.to.now few small need.2 r.to_size,
    )

pub visit_term-visit_arguments-requires : goal.visit_term-visit_arguments-requires
visit_term-visit_arguments-requires t c =
    let a = c.args in
    let r = c.requires.0 in
    let need = c.requires.1 in
    let few : a.j < 64 = omega (arith, need.0, r.sound.few) in
    let inside : a.j < length a.seen.now = omega (arith, need.0, r.sound.few, r.seen_size) in
    let small : c.kind_at-kind.result < 64 = omega (arith, c.kind_at-kind.ensures, r.sound.kinds a.j) in
    let left = head_left a.seen.now inside need.1 few small c.put_head-from.ensures in
    let seen_size = length-set a.seen.now a.j true ∙ r.seen_size in (
      omega (arith, c.decreases),
      (
        record { sound = r.sound; to_size = c.put_head-from.ensures.size ∙ r.to_size; seen_size = seen_size },
        (need.0, omega (arith, left, need.2)),
      ),
    )

pub visit_term-returns-in_err-end : goal.visit_term-returns-in_err-end
visit_term-returns-in_err-end t c =
    let a = c.args in
    let r = c.requires.0 in
    let inside : a.j < length a.seen.now = omega (arith, c.requires.1.0, r.sound.few, r.seen_size) in
    MatchResult-from_err c.from_residual.result _ _ c.from_residual.ensures.0
    (λ _. joint_failed (block_form a.session.now) a.j a.seen.now inside c.in_err-end.ensures)

pub visit_term-put_closing-requires : goal.visit_term-put_closing-requires
visit_term-put_closing-requires t c =
    let a = c.args in
    let r = c.requires.0 in
    let need = c.requires.1 in
    let few : a.j < 64 = omega (arith, need.0, r.sound.few) in
    let inside : a.j < length a.seen.now = omega (arith, need.0, r.sound.few, r.seen_size) in
    let small : c.kind_at-kind.result < 64 = omega (arith, c.kind_at-kind.ensures, r.sound.kinds a.j) in
    let left = head_left a.seen.now inside need.1 few small c.put_head-from.ensures in
    let told = c.in_ok-end.ensures in
    omega (
      arith,
      closing_short c.put_head-from.result c.in_ok-end.end,
      told.room,
      told.put.size,
      c.put_head-from.ensures.size,
      left,
      need.2,
      r.to_size,
    )

pub visit_term-returns : goal.visit_term-returns
visit_term-returns t c =
    let a = c.args in
    let r = c.requires.0 in
    let need = c.requires.1 in
    let few : a.j < 64 = omega (arith, need.0, r.sound.few) in
    let inside : a.j < length a.seen.now = omega (arith, need.0, r.sound.few, r.seen_size) in
    let small : c.kind_at-kind.result < 64 = omega (arith, c.kind_at-kind.ensures, r.sound.kinds a.j) in
    joint_told (block_form a.session.now) a.below a.j inside need.1 few small c.kind_at-kind.ensures
    c.put_head-from.ensures c.in_ok-end.ensures c.put_closing.ensures
