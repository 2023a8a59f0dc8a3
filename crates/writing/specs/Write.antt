-- Write: replies 1, 4 and 12; the solved form as a facts packet, and the rest of the output unchanged.
-- Assumes nothing.
use Rattle.std.specs.Prelude.{cond, List, [], ◌∷◌, ℕ}
use Rattle.replies.specs.Replies.{refuses, first_refusal, Reply}
use Rattle.packets.specs.FactsPacket.{facts_packet}
use Rattle.joints.specs.Layout.{joints_of, taken}
use Rattle.blocks.specs.WellFormed.{block_reply}
use Rattle.outputs.specs.Output.{output_reply, output_after}

-- the solved form of a block
abbrev pub solved_form : List ℕ → List ℕ
solved_form b = facts_packet (joints_of b) (taken b)

unfoldable pub write_reply : List ℕ → List ℕ → Reply
write_reply b out = first_refusal (block_reply b ∷ []) (output_reply (solved_form b) out)

-- the output afterwards
unfoldable pub written_output : List ℕ → List ℕ → List ℕ
written_output b out = cond (refuses (write_reply b out)) out (output_after (solved_form b) out)
