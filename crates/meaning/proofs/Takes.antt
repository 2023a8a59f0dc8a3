-- Taking: no facts, facts in turns, and that a form which was taken is satisfiable, by its own picture. In the words of the session, on rig
-- joints: a taken form means the taken facts and the new ones together, and a refuted one is a clash.
-- Assumes nothing.
use mathlib.Core.List.{List, [], ◌++◌, map}
use Prim.Native.Nat.{ℕ, ◌<◌}
use Rattle.kinds.specs.Laws.{Lawful}
use Rattle.meaning.specs.declared.RigJoint.{RigJoint}
use Rattle.meaning.specs.Picture.{Picture, Fact, All, rename}
use Rattle.meaning.specs.Rig.{Rig, meet_of, NoPicture, SomePicture, SameMeaning}
use Rattle.meaning.specs.Form.{Form, rig_joint, taken_facts}
use Rattle.meaning.specs.Solving.{Well, rig_number, Models, Taken, Refuted}
use Rattle.meaning.proofs.Rigs.{LawfulRig, counts_every}
use Rattle.meaning.proofs.Facts.{by_number, all_append, all_left, all_right, all_rename, models→taken, taken→models}
use Rattle.meaning.proofs.Canon.{canon, canon_placing, canon_rig_placing, canon_models, canon_taken, at_class}

module _ {n : ℕ} {meet : ℕ → ℕ → ℕ} {v : ℕ} {S : Form} where
  pub taken_none : Well n v S → Taken n meet v S [] S
  taken_none w = record { well = w; means = λ P σ placed. (λ m. (m, tt), λ m. m.0) }

  pub taken_then : {T U : Form} {fs gs : List (Fact ℕ)} → Taken n meet v S fs T → Taken n meet v T gs U → Taken n meet v S (fs ++ gs) U
  taken_then {T} {U} {fs} {gs} a b =
      record {
        well = b.well;
        means = λ P σ placed. (
          λ m.
              let x : Models meet v T P σ × All meet P σ gs = (b.means P σ placed).0 m in
              let y : Models meet v S P σ × All meet P σ fs = (a.means P σ placed).0 x.0 in
              (y.0, all_append meet P σ fs gs y.1 x.1),
          λ m.
              (b.means P σ placed).1 (
                (a.means P σ placed).1 (m.0, all_left meet P σ fs gs m.1),
                all_right meet P σ fs gs m.1,
              ),
        );
      }

  pub refuted_then : {T : Form} {fs : List (Fact ℕ)} (gs : List (Fact ℕ)) →
      Taken n meet v S fs T → Refuted n meet v T gs → Refuted n meet v S (fs ++ gs)
  refuted_then {T} {fs} gs a c P σ placed m f =
      c P σ placed ((a.means P σ placed).1 (m, all_left meet P σ fs gs f)) (all_right meet P σ fs gs f)

module _ (n : ℕ) (meet : ℕ → ℕ → ℕ) (v : ℕ) (S : Form) where
  -- facts that are refuted stay so with more facts
  pub refuted_more : (fs gs : List (Fact ℕ)) → Refuted n meet v S fs → Refuted n meet v S (fs ++ gs)
  refuted_more fs gs c P σ placed m f = c P σ placed m (all_left meet P σ fs gs f)

module _ {n : ℕ} {meet : ℕ → ℕ → ℕ} (L : Lawful n meet) {v : ℕ} (pos : 0 < v) {S T : Form} where
  -- facts are not both taken and refuted
  pub taken_not_refuted : {fs : List (Fact ℕ)} → Taken n meet v S fs T → Refuted n meet v S fs → ⊥
  taken_not_refuted {fs} t c =
      let m : Models meet v S (canon pos t.well) T.class × All meet (canon pos t.well) T.class fs =
      (t.means (canon pos t.well) T.class (canon_placing pos t.well)).0 (canon_models L pos t.well) in
      c (canon pos t.well) T.class (canon_placing pos t.well) m.0 m.1

-- new facts on rig joints, taken at the nodes of their numbers
module _ {R : Rig} (g : LawfulRig R) (S : Form) (fs : List (Fact RigJoint)) where
  abbrev v : ℕ
  v = R.joints

  abbrev meet : ℕ → ℕ → ℕ
  meet = meet_of R

  -- the taken and the new facts, at nodes
  to_nodes : (P : Picture R.kinds) (σ : RigJoint → ℕ) → All meet P σ (taken_facts v S ++ fs) →
      Models meet v S P (by_number σ) × All meet P (by_number σ) (map (rename rig_number) fs)
  to_nodes P σ a = (
    taken→models g.lawful g.two v S P σ (all_left meet P σ (taken_facts v S) fs a),
    (all_rename meet P rig_number (by_number σ) fs).1 (all_right meet P σ (taken_facts v S) fs a),
  )

  from_nodes : (P : Picture R.kinds) (σ : RigJoint → ℕ) →
      Models meet v S P (by_number σ) → All meet P (by_number σ) (map (rename rig_number) fs) → All meet P σ (taken_facts v S ++ fs)
  from_nodes P σ m a =
      all_append meet P σ (taken_facts v S) fs
      (models→taken g.lawful g.two v S P σ m)
      ((all_rename meet P rig_number (by_number σ) fs).0 a)

  pub taken_means : {T : Form} → Taken R.kinds meet v S (map (rename rig_number) fs) T →
      SameMeaning R (taken_facts v T) (taken_facts v S ++ fs)
  taken_means {T} t P σ _ placed = (
    λ a.
        let m : Models meet v S P (by_number σ) × All meet P (by_number σ) (map (rename rig_number) fs) =
        (t.means P (by_number σ) (λ j. placed (rig_joint j))).0 (taken→models g.lawful g.two v T P σ a) in
        from_nodes P σ m.0 m.1,
    λ a. models→taken g.lawful g.two v T P σ ((t.means P (by_number σ) (λ j. placed (rig_joint j))).1 (to_nodes P σ a)),
  )

  -- facts that a form has taken have a picture, the form's own
  pub taken_picture : {T : Form} → Taken R.kinds meet v S (map (rename rig_number) fs) T → SomePicture R (taken_facts v S ++ fs)
  taken_picture {T} t =
      let here = canon g.some t.well in
      let counts = counts_every R.profile here in
      let placed = canon_rig_placing g.some t.well in
      record {
        picture = here;
        placing = at_class T;
        counts = counts;
        placed = placed;
        holds = (taken_means t here (at_class T) counts placed).0 (canon_taken g.lawful g.two g.some t.well);
      }

  pub refuted_clash : Refuted R.kinds meet v S (map (rename rig_number) fs) → NoPicture R (taken_facts v S ++ fs)
  refuted_clash c P σ _ placed a = c P (by_number σ) (λ j. placed (rig_joint j)) (to_nodes P σ a).0 (to_nodes P σ a).1

  pub clash_refuted : NoPicture R (taken_facts v S ++ fs) → Refuted R.kinds meet v S (map (rename rig_number) fs)
  clash_refuted c P σ placed m a = c P (λ j. σ j.0) (counts_every R.profile P) (λ j. placed j.0) (from_nodes P (λ j. σ j.0) m a)
