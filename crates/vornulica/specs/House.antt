-- The house table handed to the host: 1 unless the buffer has exactly 1,089 bytes, otherwise done with the table written. 01 has no row for this
-- call; docs/DECISIONS.md tells why it answers so.
-- Assumes nothing.
use Rattle.std.specs.Prelude.{cond, List, ℕ, eqb, length}
use Rattle.replies.specs.declared.Cause.TheVariants.{BadSize}
use Rattle.replies.specs.Replies.{unless, Reply}
use Rattle.house.specs.Meets.{house_table}

abbrev pub house_reply : List ℕ → Reply
house_reply buffer = unless (eqb (length buffer) 1089) BadSize 0

-- the buffer afterwards
abbrev pub house_buffer : List ℕ → List ℕ
house_buffer buffer = cond (eqb (length buffer) 1089) house_table buffer
