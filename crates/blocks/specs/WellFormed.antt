-- When a block is well formed, by the clauses of 'Session block' and no other; replies 1 and 4; and when a block stands for a rig.
-- Assumes nothing.
use Rattle.std.specs.Prelude.{◌≡◌, Bool, true, not, ◌&&◌, List, [], ◌∷◌, ℕ, ◌*◌, eqb, length, take, drop, Ok}
use Rattle.replies.specs.declared.Cause.TheVariants.{BadSize, BadBlock}
use Rattle.replies.specs.Replies.{refuses, unless, first_refusal, Reply}
use Rattle.runs.specs.Runs.{all_zero, within}
use Rattle.tables.specs.Check.{table_reply}
use Rattle.meaning.specs.Rig.{Rig}
use Rattle.joints.specs.Layout.{kinds_of}
use Rattle.fitting.specs.Fits.{joints_fit}
use Rattle.blocks.specs.Layout.{block_size, room_of, rig_of}

-- n is in range, the table passes the check, and the bytes behind it are zero
unfoldable pub table_fits : ℕ → List ℕ → Bool
table_fits n room = within 2 64 n && (not (refuses (table_reply n (take (n * n) room))) && all_zero (drop (n * n) room))

abbrev pub well_formed : List ℕ → Bool
well_formed b = table_fits (kinds_of b) (room_of b) && joints_fit (kinds_of b) b

-- 1 where the block has not its size, 4 where it is not well formed, done otherwise
unfoldable pub block_reply : List ℕ → Reply
block_reply b = first_refusal (unless (eqb (length b) block_size) BadSize 0 ∷ unless (well_formed b) BadBlock 0 ∷ []) (Ok 0)

-- b is a well-formed block of this rig
pub record Stands (R : Rig) (b : List ℕ) : Type 0 where
  pub size : length b ≡ block_size
  pub well : well_formed b ≡ true
  pub rig : rig_of b ≡ R
