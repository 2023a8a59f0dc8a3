-- The solver's answer to a packet, as the answer of taking: a clash where no picture is left, otherwise the block with the next form in
-- it, whose classes are no more than before.
-- Assumes nothing.
use mathlib.Core.Path.{◌≡◌, refl, sym, ◌∙◌, ap, ap₂}
use mathlib.Core.List.{List, [], ◌∷◌, ◌++◌, map}
use Prim.Native.Nat.{ℕ, zero, suc, ◌+◌, ◌-◌, ◌≤◌}
use native.Mathlib.Omega.{arith}
use lib.ListN.{length, take, length-map}
use Rattle.std.specs.Prelude.{Result, Ok, Err, IsErrAnd, MatchResult}
use Rattle.meaning.specs.declared.RigJoint.{RigJoint}
use Rattle.meaning.specs.Picture.{Fact, rename}
use Rattle.meaning.specs.Form.{Form, list_form, taken_facts, classes}
use Rattle.meaning.specs.Rig.{Rig, meet_of, NoPicture, SomePicture, FirstClash}
use Rattle.meaning.specs.Solving.{rig_number, Taken, Refuted}
use Rattle.meaning.specs.Asking.{Extends}
use Rattle.meaning.proofs.SameForm.{SameForm, form_well, form_models, form_facts, form_classes, unpacked_same}
use Rattle.meaning.proofs.Classes.{fewer_classes}
use Rattle.meaning.proofs.Takes.{taken_means, taken_picture, refuted_clash}
use Rattle.solver.specs.Unpacked.{rows_size, Ready, Stopped}
use Rattle.joints.specs.Layout.{kinds_of, joints_of, block_form, taken, class_count}
use Rattle.joints.specs.Storing.{with_form}
use Rattle.blocks.specs.Layout.{table_of, rig_of}
use Rattle.blocks.proofs.Shape.{GoodBlock, put_together, block_rig, block_sized}
use Rattle.blocks.proofs.Bytes.{with_rig, stored_form, stored_good}
use Rattle.packets.specs.Facts.{rig_facts}
use Rattle.taking.specs.Take.{After}
use Rattle.taking.specs.Solve.{Solves}

-- the first k of a list under a map
take_map : {A B : Type 0} (f : A → B) (k : ℕ) (l : List A) → take k (map f l) ≡ map f (take k l)
take_map f zero l = refl
take_map f (suc k) [] = refl
take_map {B = B} f (suc k) (x ∷ l) = ap (λ (m : List B). f x ∷ m) (take_map f k l)

module _ {b : List ℕ} (g : GoodBlock b) {E : Form} (x : Extends (joints_of b) 0 (block_form b) E) where
  same : SameForm (block_form b) E
  same = unpacked_same g.well.well x

  pub unpacked_ready : Ready (kinds_of b) (joints_of b) (table_of b) E
  unpacked_ready =
      let rig = block_rig g.well in
      record {
        two = rig.two;
        kinds = g.well.n_high;
        size = (block_sized g.well g.size).size;
        lawful = rig.lawful;
        nodes = omega (arith, g.well.v_high);
        well = form_well same g.well.well;
      }

  module _ (facts : List (Fact RigJoint)) where
    pub refuted_answer : Refuted (kinds_of b) (meet_of (rig_of b)) (joints_of b) E (map (rename rig_number) facts) → NoPicture (rig_of b) (taken b ++ facts)
    refuted_answer r =
        refuted_clash (block_rig g.well) (block_form b) facts (λ P σ placed m a. r P σ placed ((form_models same).0 m) a)

    module _ {T : Form} (t : Taken (kinds_of b) (meet_of (rig_of b)) (joints_of b) E (map (rename rig_number) facts) T) where
      from_block : Taken (kinds_of b) (meet_of (rig_of b)) (joints_of b) (block_form b) (map (rename rig_number) facts) T
      from_block =
          record {
            well = t.well;
            means = λ P σ placed. (
              λ m. let z = (t.means P σ placed).0 m in ((form_models same).1 z.0, z.1),
              λ z. (t.means P σ placed).1 ((form_models same).0 z.0, z.1),
            );
          }

      pub taken_fewer : classes T (joints_of b) ≤ class_count b
      taken_fewer = let rig = block_rig g.well in fewer_classes rig.lawful rig.some g.well.well from_block

      taken_answer : SomePicture (rig_of b) (taken b ++ facts)
      taken_answer = taken_picture (block_rig g.well) (block_form b) facts from_block

    module _ (c k r : List ℕ) (lc : length c ≡ 96) (lk : length k ≡ 96) (lr : length r ≡ rows_size)
        (t : Taken (kinds_of b) (meet_of (rig_of b)) (joints_of b) E (map (rename rig_number) facts) (list_form c k r)) where
      rig_stays : rig_of (with_form b c k r) ≡ rig_of b
      rig_stays = with_rig b c k r g.size (omega arith) (omega arith) (omega arith)

      form_stored : SameForm (block_form (with_form b c k r)) (list_form c k r)
      form_stored = stored_form g c k r (omega arith) (omega arith) (omega arith) t.well

      pub taken_after : After b facts (with_form b c k r)
      taken_after =
          let good = stored_good g c k r (omega arith) (omega arith) (omega arith) t.well in
          record {
            stands = record { size = good.size; well = put_together (with_form b c k r) good.well; rig = rig_stays };
            means = rw after_facts (taken_means (block_rig g.well) (block_form b) facts (from_block t));
          }
        where
          after_facts : taken (with_form b c k r) ≡ taken_facts (joints_of b) (list_form c k r)
          after_facts =
              ap (λ (R : Rig). taken_facts R.joints (block_form (with_form b c k r))) rig_stays ∙ form_facts form_stored (joints_of b)

      pub taken_classes : classes (list_form c k r) (joints_of b) ≡ class_count (with_form b c k r)
      taken_classes =
          sym (form_classes form_stored (joints_of b)) ∙ ap (λ (R : Rig). classes (block_form (with_form b c k r)) R.joints) (sym rig_stays)

  -- where the fold stops at a clash is the first fact that clashes
  pub stopped_first :
      (facts : List (Fact RigJoint)) {at : ℕ} →
      Stopped (kinds_of b) (meet_of (rig_of b)) (joints_of b) E (map (rename rig_number) facts) at → FirstClash (rig_of b) (taken b) facts at
  stopped_first facts {at} stop =
      record {
        among = omega (arith, stop.among, length-map facts (rename rig_number));
        before = taken_answer (take at facts) (rw (take_map (rename rig_number) at facts) at stop.before.1);
        none = refuted_answer (take (at + 1) facts) (rw (take_map (rename rig_number) (at + 1) facts) at stop.refuted);
      }

-- what is said of an error, said of the result
pub at_error :
    {A E : Type 0} {e : E} (r : Result A E) (P : A → Type 0) (Q : E → Type 0) → IsErrAnd r (λ y. y ≡ e) → Q e → MatchResult r P Q
at_error (Err y) P Q q h = rw q h
at_error (Ok x) P Q q h = absurd q

-- the solver's answer with its count of classes, as the outcome of the packet p
module _ {b : List ℕ} (p : List ℕ) (g : GoodBlock b) {S : Form} (x : Extends (joints_of b) 0 (block_form b) S) where
  pub clash_outcome :
      {at : ℕ} → Stopped (kinds_of b) (meet_of (rig_of b)) (joints_of b) S (map (rename rig_number) (rig_facts p)) at → Solves b p (Err at) b
  clash_outcome stop = (stopped_first g x (rig_facts p) stop, refl)

  pub done_outcome :
      (c k r : List ℕ) → length c ≡ 96 → length k ≡ 96 → length r ≡ rows_size
      → Taken (kinds_of b) (meet_of (rig_of b)) (joints_of b) S (map (rename rig_number) (rig_facts p)) (list_form c k r)
      → {before after : ℕ} → before ≡ class_count b → after ≡ classes (list_form c k r) (joints_of b)
      → Solves b p (Ok (before - after)) (with_form b c k r)
  done_outcome c k r lc lk lr t eb ea =
      let classes_told = ea ∙ taken_classes g x (rig_facts p) c k r lc lk lr t in
      (taken_after g x (rig_facts p) c k r lc lk lr t, ap₂ (λ (m n : ℕ). m - n) eb classes_told)
