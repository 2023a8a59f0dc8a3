-- "Taken by a fresh session with the same table and V it gives the same block": the solved form of a good block is a well-formed packet that
-- says exactly the taken facts, a session with the block's own n, V and table can be opened over any lent bytes of the right size, and as
-- that session has taken nothing yet, the block is what taking these facts means; taking allows no other result.
-- Assumes nothing.
use mathlib.Core.Path.{◌≡◌, refl, sym, ap, ◌∙◌, subst}
use mathlib.Core.Logic.{◌≢◌, ◌⊎◌, inl, inr}
use mathlib.Core.Bool.{Bool, true, false, cond}
use mathlib.Core.List.{List, ◌++◌}
use Prim.Native.Nat.{ℕ, zero, suc, ◌+◌, ◌-◌, ◌*◌, ◌<◌, ◌≤◌}
use native.Mathlib.Omega.{arith}
use lib.Dec.{eqb}
use lib.ListN.{length, length-map}
use borrow.Author.Tests.{eqb-true, eqb-false, eq-eqb, le-leb}
use Rattle.std.specs.Prelude.{Ok}
use Rattle.replies.specs.Replies.{refuses, Reply}
use Rattle.kinds.specs.Sizes.{Sized}
use Rattle.meaning.specs.declared.RigJoint.{RigJoint}
use Rattle.meaning.specs.Picture.{Fact, rename}
use Rattle.meaning.specs.Form.{Form, unknown, links_from, facts_at, facts_from, rig_joint}
use Rattle.meaning.specs.Solving.{Smallest, Well, AllInRange}
use Rattle.meaning.proofs.Facts.{in_range_append}
use Rattle.meaning.specs.Rig.{SameMeaning}
use Rattle.packets.specs.Facts.{rig_facts}
use Rattle.packets.proofs.FactsPacket.{written_says}
use Rattle.screening.specs.Screening.{facts_wanted, packet_reply}
use Rattle.screening.proofs.Converse.{both_true}
use Rattle.screening.proofs.Written.{written_well}
use Rattle.joints.specs.Layout.{kinds_of, joints_of, block_form, taken, class_count}
use Rattle.runs.specs.Runs.{within}
use Rattle.blocks.specs.Layout.{block_size, table_of, rig_of, fresh_block}
use Rattle.blocks.specs.WellFormed.{block_reply, Stands}
use Rattle.blocks.proofs.Shape.{GoodBlock, good_block, put_together, block_sized, block_done}
use Rattle.blocks.proofs.Bytes.{same_rig}
use Rattle.blocks.proofs.Fresh.{fresh_good, fresh_table, fresh_facts, fresh_classes}
use Rattle.opening.specs.Open.{sizes_fit, open_reply, open_block}
use Rattle.opening.proofs.Opening.{then_table, is_fresh}
use Rattle.taking.specs.Take.{Take, After, take_refusal}
use Rattle.taking.specs.Take.Take.{done}
use Rattle.taking.proofs.Taking.{packet_decides}
use Rattle.taking.proofs.OneTake.{take_one}
use Rattle.writing.specs.Write.{solved_form}
use Rattle.writing.proofs.Writing.{taken_few}

-- the facts of a well-formed form are in range
module _ (n v : ℕ) where
  range_cond :
      (b : Bool) (fs gs : List (Fact ℕ)) → (b ≡ true → AllInRange n v fs) → (b ≡ false → AllInRange n v gs) → AllInRange n v (cond b fs gs)
  range_cond true fs gs f g = f refl
  range_cond false fs gs f g = g refl

  module _ {S : Form} (w : Well n v S) where
    known_end : (j l : ℕ) → S.link j l ≢ unknown → (S.link j l ≡ unknown) ⊎ Smallest v S (S.link j l) → S.link j l < v
    known_end j l known (inl u) = absurd (known u)
    known_end j l known (inr h) = h.0

    links_in_range : (j : ℕ) → Smallest v S j → (l count : ℕ) → l + count ≤ 16 → AllInRange n v (links_from S j l count)
    unfolding links_from
    links_in_range j h l zero b = tt
    links_in_range j h l (suc count) b =
        let rest = links_in_range j h (suc l) count (omega arith) in
        range_cond (eqb (S.link j l) unknown) _ _ (λ _. rest)
        (λ e. ((h.0, omega arith, known_end j l (eqb-false _ _ e) (w.link_smallest j l h (omega arith))), rest))

    at_in_range : (j : ℕ) → j < v → AllInRange n v (facts_at S j)
    unfolding facts_at
    at_in_range j h =
        range_cond (eqb (S.class j) j) _ _
        (λ e.
        let links = links_in_range j (h, eqb-true _ _ e) 0 16 (omega arith) in
        range_cond (eqb (S.kind j) 1) _ _ (λ _. links) (λ _. ((h, w.kind_in j), links)))
        (λ e. ((h, omega (arith, w.class_le j h)), tt))

    facts_in_range : (j count : ℕ) → j + count ≤ v → AllInRange n v (facts_from S j count)
    unfolding facts_from
    facts_in_range j zero h = tt
    facts_in_range j (suc count) h =
        in_range_append n v (facts_at S j) (facts_from S (suc j) count) (at_in_range j (omega arith)) (facts_in_range (suc j) count (omega arith))

-- the solved form of a good block
module _ {b : List ℕ} (g : GoodBlock b) where
  few : length (facts_from (block_form b) 0 (joints_of b)) ≤ 1088
  few =
      omega (arith, taken_few (joints_of b) (block_form b) g.well.v_high, length-map (facts_from (block_form b) 0 (joints_of b)) (rename rig_joint))

  in_range : AllInRange (kinds_of b) (joints_of b) (facts_from (block_form b) 0 (joints_of b))
  in_range = facts_in_range (kinds_of b) (joints_of b) g.well.well 0 (joints_of b) (omega arith)

  -- it is a well-formed packet for taking
  pub solved_form_well : packet_reply (facts_wanted (joints_of b)) (kinds_of b) (joints_of b) (solved_form b) ≡ Ok 0
  solved_form_well = written_well (kinds_of b) (joints_of b) (facts_from (block_form b) 0 (joints_of b)) few in_range

  -- and says exactly the taken facts
  pub solved_form_says : rig_facts (solved_form b) ≡ taken b
  solved_form_says = written_says (joints_of b) (facts_from (block_form b) 0 (joints_of b))

  pub sized : Sized (kinds_of b) (table_of b)
  sized = block_sized g.well g.size

  -- a fresh block with the same n, V and table
  abbrev pub fresh : List ℕ
  fresh = fresh_block (kinds_of b) (joints_of b) (table_of b)

  pub fresh_well : block_reply fresh ≡ Ok 0
  fresh_well = block_done (fresh_good (kinds_of b) (joints_of b) (table_of b) sized g.well.v_high g.well.v_low g.well.passes)

  -- the block is one of the fresh block's rig
  pub stands_fresh : Stands (rig_of fresh) b
  stands_fresh =
      record {
        size = g.size;
        well = put_together b g.well;
        rig = same_rig b fresh refl (sym (fresh_table (kinds_of b) (joints_of b) (table_of b) sized g.well.v_high)) refl;
      }

  not_refused : take_refusal fresh (solved_form b) ≡ Ok 0
  not_refused = packet_decides fresh (solved_form b) (ap refuses fresh_well) ∙ solved_form_well

  -- a fresh block that takes the form has to satisfy the block's own taken facts
  same_facts : taken fresh ++ rig_facts (solved_form b) ≡ taken b
  same_facts =
      ap (λ (l : List (Fact RigJoint)). l ++ rig_facts (solved_form b))
      (fresh_facts (kinds_of b) (joints_of b) (table_of b) sized g.well.v_high)
      ∙ solved_form_says

  -- and the block does
  after_fresh : After fresh (rig_facts (solved_form b)) b
  after_fresh = record { stands = stands_fresh; means = means (sym same_facts) }
    where
      means : {fs : List (Fact RigJoint)} → taken b ≡ fs → SameMeaning (rig_of fresh) (taken b) fs
      means e = rw (← e) (λ P σ counts placed. (λ a. a, λ a. a))

  fresh_takes : Take fresh (solved_form b) (Ok (joints_of b - class_count b)) b
  fresh_takes =
      done not_refused after_fresh
      (ap (λ (k : ℕ). Ok (k - class_count b)) (sym (fresh_classes (kinds_of b) (joints_of b) (table_of b) sized g.well.v_high)))

  -- over lent bytes of the right size
  module _ (lent : List ℕ) (size : length lent ≡ block_size) where
    sizes_fit_lem : sizes_fit (kinds_of b) (joints_of b) (table_of b) lent ≡ true
    sizes_fit_lem =
        both_true (within 2 64 (kinds_of b)) _
        (both_true _ _ (le-leb 2 (kinds_of b) g.well.n_low) (le-leb (kinds_of b) 64 g.well.n_high))
        (both_true (within 1 64 (joints_of b)) _
        (both_true _ _ (le-leb 1 (joints_of b) g.well.v_low) (le-leb (joints_of b) 64 g.well.v_high))
        (both_true _ _ (eq-eqb (length (table_of b)) (kinds_of b * kinds_of b) sized.size) (eq-eqb (length lent) block_size size)))

    -- a session with the block's own n, V and table can be opened
    pub can_open : open_reply (kinds_of b) (joints_of b) (table_of b) lent ≡ Ok 0
    can_open = then_table (kinds_of b) (joints_of b) (table_of b) lent sizes_fit_lem ∙ g.well.passes

    abbrev opened : List ℕ
    opened = open_block (kinds_of b) (joints_of b) (table_of b) lent

    -- it takes the solved form and then is the block, with a join for each class that the block has less than joints
    pub taken_back : Take opened (solved_form b) (Ok (joints_of b - class_count b)) b
    taken_back =
        subst (λ (x : List ℕ). Take x (solved_form b) (Ok (joints_of b - class_count b)) b)
        (is_fresh (kinds_of b) (joints_of b) (table_of b) lent (ap refuses can_open)) fresh_takes

    -- and no other reply and no other block come of it
    pub only_back : {reply : Reply} {after : List ℕ} → Take opened (solved_form b) reply after →
        (reply ≡ Ok (joints_of b - class_count b)) × (after ≡ b)
    only_back t = take_one t taken_back

-- the round trip of a block over lent bytes: a session is opened with its n, V and table, takes its solved form, and is the block again, byte
-- for byte
pub record RoundTrip (b lent : List ℕ) : Type 0 where
  pub opens : open_reply (kinds_of b) (joints_of b) (table_of b) lent ≡ Ok 0
  pub takes : Take (open_block (kinds_of b) (joints_of b) (table_of b) lent) (solved_form b) (Ok (joints_of b - class_count b)) b
  pub only : {reply : Reply} {after : List ℕ} → Take (open_block (kinds_of b) (joints_of b) (table_of b) lent) (solved_form b) reply after →
      (reply ≡ Ok (joints_of b - class_count b)) × (after ≡ b)

-- for every block that is refused neither with 1 nor with 4, and any lent bytes of the right size
pub round_trip : (b lent : List ℕ) → block_reply b ≡ Ok 0 → length lent ≡ block_size → RoundTrip b lent
round_trip b lent well size =
    let g = good_block b (ap refuses well) in
    record { opens = can_open g lent size; takes = taken_back g lent size; only = λ t. only_back g lent size t }
