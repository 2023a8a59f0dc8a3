-- Open: replies 1 to 3; on success the whole block is written, otherwise no byte.
-- Assumes nothing.
use Rattle.std.specs.Prelude.{Bool, ◌&&◌, cond, List, [], ◌∷◌, ℕ, ◌*◌, eqb, length}
use Rattle.replies.specs.declared.Cause.TheVariants.{BadSize}
use Rattle.replies.specs.Replies.{refuses, unless, first_refusal, Reply}
use Rattle.tables.specs.Check.{table_reply}
use Rattle.runs.specs.Runs.{within}
use Rattle.blocks.specs.Layout.{block_size, fresh_block}

-- n and V are in range, the table has n × n bytes, and the block its size
abbrev pub sizes_fit : ℕ → ℕ → List ℕ → List ℕ → Bool
sizes_fit n v table b = within 2 64 n && (within 1 64 v && (eqb (length table) (n * n) && eqb (length b) block_size))

unfoldable pub open_reply : ℕ → ℕ → List ℕ → List ℕ → Reply
open_reply n v table b = first_refusal (unless (sizes_fit n v table b) BadSize 0 ∷ []) (table_reply n table)

-- the block afterwards
unfoldable pub open_block : ℕ → ℕ → List ℕ → List ℕ → List ℕ
open_block n v table b = cond (refuses (open_reply n v table b)) b (fresh_block n v table)
