-- The text that is written from a joint of a block: what a call that goes on past the first refusals knows of its block and joint, and that
-- the text has at most 17,418 bytes, so that the third number of writing is below 2^24. This bound is rough and needs no visit: that of the
-- visit, 768, is `text_short` in Writes.antt.
-- Assumes nothing.
use mathlib.Core.Path.{◌≡◌, ap}
use mathlib.Core.List.{List, []}
use Prim.Native.Nat.{ℕ, ◌^◌, ◌<◌, ◌≤◌}
use native.Mathlib.Omega.{arith}
use lib.Dec.{ltb}
use lib.ListN.{length}
use borrow.Author.Tests.{ltb-true}
use Rattle.std.specs.Prelude.{Ok}
use Rattle.replies.specs.declared.Cause.TheVariants.{OutOfRange}
use Rattle.replies.specs.Replies.{refuses, third, Reply}
use Rattle.replies.proofs.Laws.{refusal_third, first_passed, test_passed}
use Rattle.joints.specs.Layout.{joints_of, block_form}
use Rattle.blocks.specs.WellFormed.{block_reply}
use Rattle.blocks.proofs.Shape.{GoodBlock, good_block}
use Rattle.outputs.proofs.Output.{output_third}
use Rattle.terms.specs.Language.{deepest}
use Rattle.term_writing.specs.Tree.{TreeFrom, term_from}
use Rattle.term_writing.specs.WriteTerm.{WriteTerm, write_term_refusal, written_text}
use Rattle.term_writing.specs.WriteTerm.WriteTerm.{refused, no_tree, tree as from_tree}
use Rattle.term_writing.proofs.TreeFacts.{tree_fits, tree_few}
use Rattle.term_writing.proofs.TextLength.{text_length}

module _ (b : List ℕ) (root : ℕ) where
  pub write_goes_on : write_term_refusal b root ≡ Ok 0 → GoodBlock b × (root < joints_of b)
  unfolding write_term_refusal
  write_goes_on d =
      let passed = first_passed (block_reply b) _ (Ok 0) (ap refuses d) in
      let inside = test_passed (ltb root (joints_of b)) OutOfRange 0 [] (Ok 0) passed.1 in
      (good_block b passed.0, ltb-true root (joints_of b) inside.0)

  pub written_short : GoodBlock b → root < joints_of b → TreeFrom (joints_of b) (block_form b) root → length (written_text b root) ≤ 17418
  written_short g inside tree =
      let fits = tree_fits g.well.well tree inside g.well.n_high g.well.v_high in
      omega (arith, text_length (term_from (block_form b) deepest root) deepest fits, tree_few g.well.well tree inside g.well.v_high)

pub write_term_third : {b out after : List ℕ} {root : ℕ} {r : Reply} → WriteTerm b root out r after → third r < 2 ^ 24
write_term_third {b} {root = root} (refused e q k) = rw (q, refusal_third (write_term_refusal b root) e) (omega arith)
write_term_third (no_tree d none q k) = rw q (omega arith)
write_term_third {b} {out} {root = root} (from_tree d tree q k) =
    let known = write_goes_on b root d in
    rw q (output_third (written_text b root) out (omega (arith, written_short b root known.0 known.1 tree)))
