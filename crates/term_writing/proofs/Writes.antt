-- The reply to writing a term, case by case: a refused block, a root out of range, no tree, and a tree's text put into the output.
-- Assumes nothing.
use mathlib.Core.Path.{◌≡◌, refl, sym, ap, ◌∙◌}
use mathlib.Core.Bool.{Bool, true, false}
use mathlib.Core.List.{List, []}
use Prim.Native.Nat.{ℕ, zero, suc, ◌<◌, ◌≤◌}
use native.Mathlib.Omega.{arith}
use lib.ListN.{length, replicate, take}
use borrow.Author.Tests.{lt-ltb, le-ltb}
use Rattle.std.specs.Prelude.{Ok}
use Rattle.replies.specs.declared.Cause.TheVariants.{OutOfRange, NoTree}
use Rattle.replies.specs.Replies.{refuses, Reply, refusal}
use Rattle.replies.proofs.Laws.{first_here, first_next, first_none, test_here, test_next}
use Rattle.joints.specs.Layout.{joints_of, block_form}
use Rattle.blocks.specs.WellFormed.{block_reply}
use Rattle.blocks.proofs.Shape.{GoodBlock, good_block}
use Rattle.outputs.specs.Output.{output_reply, output_after}
use Rattle.terms.specs.Language.{deepest}
use Rattle.term_writing.specs.Tree.{Walk, TreeFrom}
use Rattle.term_writing.specs.WriteTerm.{write_term_refusal, written_text, WriteTerm}
use Rattle.term_writing.specs.WriteTerm.WriteTerm.{no_tree, tree}
use Rattle.term_writing.specs.Visiting.{text_room, link_room, Unmarked, unmarked, Failed, Told, Sound, Accounted, Missed}
use Rattle.term_writing.proofs.Trees.{well_sound, failed_no_tree, missed_no_tree, visited_tree}

-- at the start no joint is marked
pub none_marked : (n m : ℕ) → Unmarked (replicate n false) m
none_marked zero m = refl
none_marked (suc n) zero = refl
none_marked (suc n) (suc m) = none_marked n m

pub all_unmarked : unmarked (replicate 64 false) ≡ 64
unfolding unmarked
all_unmarked = refl

module _ (b : List ℕ) (root : ℕ) where
  pub block_refused : refuses (block_reply b) ≡ true → block_reply b ≡ write_term_refusal b root
  unfolding write_term_refusal
  block_refused e = sym (first_here (block_reply b) _ _ e)

  pub root_refused : refuses (block_reply b) ≡ false → joints_of b ≤ root → refusal OutOfRange 0 ≡ write_term_refusal b root
  unfolding write_term_refusal
  root_refused e h = sym (first_next (block_reply b) _ _ e ∙ test_here _ OutOfRange 0 [] (Ok 0) (le-ltb root (joints_of b) h))

  pub not_refused : refuses (block_reply b) ≡ false → root < joints_of b → write_term_refusal b root ≡ Ok 0
  unfolding write_term_refusal
  not_refused e h =
      first_next (block_reply b) _ _ e ∙ test_next _ OutOfRange 0 [] (Ok 0) (lt-ltb root (joints_of b) h) ∙ first_none (Ok 0)

  -- where a block is well formed and the root is one of its joints
  module _ (done : block_reply b ≡ Ok 0) (inside : root < joints_of b) where
    pub good : GoodBlock b
    good = good_block b (ap refuses done)

    passed : write_term_refusal b root ≡ Ok 0
    passed = not_refused (ap refuses done) inside

    pub no_tree_told : {out : List ℕ} {r : Reply} → (TreeFrom (joints_of b) (block_form b) root → ⊥) → r ≡ refusal NoTree 0 → WriteTerm b root out r out
    no_tree_told none e = no_tree passed none e refl

    pub tree_told :
        {out after_out : List ℕ} {r : Reply} (text : List ℕ) (end : ℕ) → TreeFrom (joints_of b) (block_form b) root → take end text ≡ written_text b root →
        r ≡ output_reply (take end text) out → after_out ≡ output_after (take end text) out → WriteTerm b root out r after_out
    tree_told {out} text end whole front q s =
        tree passed whole
        (q ∙ ap (λ (bytes : List ℕ). output_reply bytes out) front) (s ∙ ap (λ (bytes : List ℕ). output_after bytes out) front)

    -- a visit from the root, no two of the v joints joined
    module _ {v : ℕ} (counted : v ≡ joints_of b) (apart : (j : ℕ) → j < v → (block_form b).class j ≡ j) where
      own : (j : ℕ) → j < joints_of b → (block_form b).class j ≡ j
      own j h = apart j (omega arith)

      pub sound : Sound (joints_of b) (block_form b)
      sound = let w = good.well in well_sound w.well w.n_high w.v_high own

      pub failed_none : Failed (Walk (block_form b) root) deepest (replicate 64 false) → TreeFrom (joints_of b) (block_form b) root → ⊥
      failed_none f = failed_no_tree sound inside (none_marked 64) f

      module _
          {to told : List ℕ} {after : List Bool} {end : ℕ}
          (t : Told (written_text b root) (Walk (block_form b) root) deepest link_room 0 to told (replicate 64 false) after end) where
        pub missed_none : {j : ℕ} → j < v → Missed (block_form b) after j → TreeFrom (joints_of b) (block_form b) root → ⊥
        missed_none h m = missed_no_tree sound inside t.visited (omega arith) m

        pub tree_found :
            length to ≡ text_room → ((j : ℕ) → j < v → Accounted (block_form b) after j) →
            TreeFrom (joints_of b) (block_form b) root × (end ≤ length told) × (take end told ≡ written_text b root)
        tree_found size all = (
          visited_tree sound inside t.visited (none_marked 64) (λ j h. all j (omega arith)) own,
          omega (arith, t.room, all_unmarked, t.put.size, size),
          t.put.front,
        )
