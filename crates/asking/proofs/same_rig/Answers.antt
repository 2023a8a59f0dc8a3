-- `asking::same_rig` meets its contract: the answer is no where the class numbers or the kinds differ, and else that of the rows.
-- Assumes nothing.
use mathlib.Core.Path.{◌≡◌, sym, ◌∙◌}
use mathlib.Core.Bool.{true≢false, false≢true}
use Prim.Native.Nat.{◌*◌}
use lib.ListN.{length}
use native.Mathlib.Omega.{arith}
use Rattle.joints.specs.Layout.{classes_of, joint_kinds_of, rows_of}
use Rattle.asking.proofs.Asking.{Tells, SameFront, front_told, answers_same, rig_same, rig_rows}
use Rattle.solver.specs.Unpacked.{rows_size}
use borrow.Author.Rules.{rules}
use Rattle.asking.proofs.same_rig.Goals.{then-same, else-same}
use Rattle.asking.proofs.same_rig.Goals as goal

pub returns-then-same-2 : goal.returns-then-same-2
returns-then-same-2 c =
    let s = c.args in
    let b = s.session.now in
    let long : (length s.end.class ≡ 96) × (length s.end.kind ≡ 96) = (search rules, search rules) in
    let class : Tells c.same.result (SameFront s.end.class (classes_of b) s.v) =
    rw c.classes.ensures.bytes at (front_told _ _ s.v (omega arith) (omega (arith, c.classes.ensures.size)) c.same.ensures) in
    let all_rows : length s.rows.now ≡ rows_size = search rules in
    let rows : Tells c.same-then-same-2.result (SameFront s.rows.now (rows_of b) (16 * s.v)) =
    rw c.rows.ensures.bytes at (front_told _ _ (16 * s.v) (omega arith) (omega (arith, c.rows.ensures.size)) c.same-then-same-2.ensures) in
    elim c.if-same.branch [
      | then-same w ↦
          let kind : Tells w.same-then-same.result (SameFront s.end.kind (joint_kinds_of b) s.v) =
          rw w.kinds.ensures.bytes at (front_told _ _ s.v (omega arith) (omega (arith, w.kinds.ensures.size)) w.same-then-same.ensures) in
          answers_same (rig_same s.v b s.end.class s.end.kind s.rows.now (class.0 w.if-same.true) (kind.0 (sym w.value-is ∙ c.if-same-2.true)))
          (rig_rows s.v b s.end.class s.end.kind s.rows.now) rows
      | else-same w ↦ absurd (true≢false (sym c.if-same-2.true ∙ w.value-is ∙ w.if-same.false))
    ]

pub returns-else-same-2 : goal.returns-else-same-2
returns-else-same-2 c =
    let s = c.args in
    let b = s.session.now in
    let long : (length s.end.class ≡ 96) × (length s.end.kind ≡ 96) = (search rules, search rules) in
    let class : Tells c.same.result (SameFront s.end.class (classes_of b) s.v) =
    rw c.classes.ensures.bytes at (front_told _ _ s.v (omega arith) (omega (arith, c.classes.ensures.size)) c.same.ensures) in (
      λ e. absurd (false≢true (sym c.if-same-2.false ∙ e)),
      λ _ q.
          elim c.if-same.branch [
            | then-same w ↦
                let kind : Tells w.same-then-same.result (SameFront s.end.kind (joint_kinds_of b) s.v) =
                rw w.kinds.ensures.bytes at (front_told _ _ s.v (omega arith) (omega (arith, w.kinds.ensures.size)) w.same-then-same.ensures) in
                kind.1 (sym w.value-is ∙ c.if-same-2.false) q.kind
            | else-same w ↦ class.1 w.if-same.false q.class
          ],
    )
