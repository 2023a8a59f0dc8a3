-- Writing a term has one reply and one output: its three cases leave one another out, and each tells both.
-- Assumes nothing.
use mathlib.Core.Path.{◌≡◌, sym, ◌∙◌}
use mathlib.Core.List.{List}
use Prim.Native.Nat.{ℕ}
use Rattle.replies.specs.Replies.{Reply}
use Rattle.replies.proofs.Laws.{not_both}
use Rattle.term_writing.specs.WriteTerm.{WriteTerm}
use Rattle.term_writing.specs.WriteTerm.WriteTerm.{refused, no_tree, tree}

pub write_term_one :
    (b : List ℕ) (root : ℕ) (out : List ℕ) {r s : Reply} {x y : List ℕ} → WriteTerm b root out r x → WriteTerm b root out s y → (r ≡ s) × (x ≡ y)
write_term_one b root out (refused h e o) (refused g f p) = (e ∙ sym f, o ∙ sym p)
write_term_one b root out (refused h e o) (no_tree d n f p) = absurd (not_both h d)
write_term_one b root out (refused h e o) (tree d t f p) = absurd (not_both h d)
write_term_one b root out (no_tree d n e o) (refused h f p) = absurd (not_both h d)
write_term_one b root out (no_tree d n e o) (no_tree g m f p) = (e ∙ sym f, o ∙ sym p)
write_term_one b root out (no_tree d n e o) (tree g t f p) = absurd (n t)
write_term_one b root out (tree d t e o) (refused h f p) = absurd (not_both h d)
write_term_one b root out (tree d t e o) (no_tree g n f p) = absurd (n t)
write_term_one b root out (tree d t e o) (tree g u f p) = (e ∙ sym f, o ∙ sym p)
