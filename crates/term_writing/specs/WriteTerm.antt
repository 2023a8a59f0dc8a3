-- Writing a rig as a term from a chosen joint: replies 1, 4, 21, 23 and 12; the text, and the rest of the output unchanged.
-- Assumes nothing.
use Rattle.std.specs.Prelude.{◌≡◌, true, List, [], ◌∷◌, ℕ, ltb, Ok}
use Rattle.replies.specs.declared.Cause.TheVariants.{OutOfRange, NoTree}
use Rattle.replies.specs.Replies.{refuses, unless, first_refusal, Reply, refusal}
use Rattle.joints.specs.Layout.{joints_of, block_form}
use Rattle.blocks.specs.WellFormed.{block_reply}
use Rattle.outputs.specs.Output.{output_reply, output_after}
use Rattle.terms.specs.Term.{term_text}
use Rattle.terms.specs.Language.{deepest}
use Rattle.term_writing.specs.Tree.{TreeFrom, term_from}

-- replies 1, 4 and 21, the first in this order; done where none fits
unfoldable pub write_term_refusal : List ℕ → ℕ → Reply
write_term_refusal b root = first_refusal (block_reply b ∷ unless (ltb root (joints_of b)) OutOfRange 0 ∷ []) (Ok 0)

-- the text that is written from a joint
abbrev pub written_text : List ℕ → ℕ → List ℕ
written_text b root = term_text (term_from (block_form b) deepest root)

-- the reply to writing from the joint `root`, and the output afterwards
pub data WriteTerm (b : List ℕ) (root : ℕ) (out : List ℕ) (reply : Reply) (after : List ℕ) : Type 0 where
  refused : refuses (write_term_refusal b root) ≡ true → reply ≡ write_term_refusal b root → after ≡ out → WriteTerm b root out reply after
  no_tree : write_term_refusal b root ≡ Ok 0 → (TreeFrom (joints_of b) (block_form b) root → ⊥) → reply ≡ refusal NoTree 0 → after ≡ out →
      WriteTerm b root out reply after
  tree : write_term_refusal b root ≡ Ok 0 → TreeFrom (joints_of b) (block_form b) root →
      reply ≡ output_reply (written_text b root) out → after ≡ output_after (written_text b root) out → WriteTerm b root out reply after
