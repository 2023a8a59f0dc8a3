-- Taking allows one result: the block after is fixed by what it means, and a clash excludes every such block.
-- Assumes nothing.
use mathlib.Core.Path.{◌≡◌, sym, ◌∙◌, ap}
use mathlib.Core.List.{List, ◌++◌}
use Prim.Native.Nat.{ℕ, ◌-◌}
use Rattle.std.specs.Prelude.{Ok}
use Rattle.replies.specs.Replies.{Reply, refusal}
use Rattle.replies.specs.declared.Cause.TheVariants.{Clash}
use Rattle.replies.proofs.Laws.{not_both}
use Rattle.meaning.specs.declared.RigJoint.{RigJoint}
use Rattle.meaning.specs.Picture.{Fact}
use Rattle.meaning.specs.Rig.{NoPicture, SomePicture, SameMeaning}
use Rattle.meaning.proofs.Rigs.{counts_every}
use Rattle.meaning.proofs.Canon.{canon, canon_rig_placing, canon_taken, at_class}
use Rattle.meaning.proofs.Clash.{picture_not_none, clash_one, clash_no_picture}
use Rattle.packets.specs.Packet.{fact_at}
use Rattle.packets.specs.Facts.{rig_facts}
use Rattle.joints.specs.Layout.{block_form, taken, class_count}
use Rattle.blocks.specs.Layout.{rig_of}
use Rattle.blocks.proofs.Shape.{GoodBlock, stands_good, block_rig}
use Rattle.blocks.proofs.Bytes.{at_rig_lem, one_block}
use Rattle.taking.specs.Take.{After, Take}
use Rattle.taking.specs.Take.Take.{refused, clashes, done}

-- the block after is good, and its form is one of the same rig
module _ {b : List ℕ} {facts : List (Fact RigJoint)} {after : List ℕ} (a : After b facts after) where
  pub after_good : GoodBlock after
  after_good = stands_good a.stands

  -- some picture and placing satisfy the facts: the picture of the block after
  pub after_picture : SomePicture (rig_of b) (taken b ++ facts)
  after_picture =
      let g = block_rig after_good.well in
      let w = after_good.well.well in
      let here = canon g.some w in
      let counts = counts_every (rig_of after).profile here in
      let placed = canon_rig_placing g.some w in
      let means = at_rig_lem (λ R. SameMeaning R (taken after) (taken b ++ facts)) (sym a.stands.rig) a.means in
      at_rig_lem (λ R. SomePicture R (taken b ++ facts)) a.stands.rig
      (record {
        picture = here;
        placing = at_class (block_form after);
        counts = counts;
        placed = placed;
        holds = (means here (at_class (block_form after)) counts placed).0 (canon_taken g.lawful g.two g.some w);
      })

  pub after_no_clash : NoPicture (rig_of b) (taken b ++ facts) → ⊥
  after_no_clash c = picture_not_none (rig_of b) after_picture c

pub after_one : {b : List ℕ} {facts : List (Fact RigJoint)} {x y : List ℕ} → After b facts x → After b facts y → x ≡ y
after_one {b} {facts} {x} {y} p q =
    one_block (after_good p) (after_good q) (p.stands.rig ∙ sym q.stands.rig) (taken b ++ facts) (over x p.means) (over y q.means)
  where
    over : (z : List ℕ) → SameMeaning (rig_of b) (taken z) (taken b ++ facts) → SameMeaning (rig_of x) (taken z) (taken b ++ facts)
    over z m = at_rig_lem (λ R. SameMeaning R (taken z) (taken b ++ facts)) (sym p.stands.rig) m

pub take_one : {b p : List ℕ} {r r' : Reply} {x x' : List ℕ} → Take b p r x → Take b p r' x' → (r ≡ r') × (x ≡ x')
take_one (refused e q s) (refused e' q' s') = (q ∙ sym q', s ∙ sym s')
take_one (refused e q s) (clashes d i c q' s') = absurd (not_both e d)
take_one (refused e q s) (done d a q') = absurd (not_both e d)
take_one (clashes d i c q s) (refused e q' s') = absurd (not_both e d)
take_one {b} {p} (clashes d i c q s) (clashes d' j c' q' s') =
    let e = clash_one (rig_of b) (taken b) (rig_facts p) c c' in (q ∙ ap (λ (k : ℕ). refusal Clash (fact_at p k)) e ∙ sym q', s ∙ sym s')
take_one {b} {p} (clashes d i c q s) (done d' a q') = absurd (after_no_clash a (clash_no_picture (rig_of b) (taken b) (rig_facts p) c))
take_one (done d a q) (refused e q' s') = absurd (not_both e d)
take_one {b} {p} (done d a q) (clashes d' i c q' s') = absurd (after_no_clash a (clash_no_picture (rig_of b) (taken b) (rig_facts p) c))
take_one {b} (done d a q) (done d' a' q') =
    let e = after_one a a' in (q ∙ ap (λ (x : List ℕ). Ok (class_count b - class_count x)) e ∙ sym q', e)
