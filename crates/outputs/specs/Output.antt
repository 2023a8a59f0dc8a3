-- What a call writes into a lent output: reply 12 and no byte where the output is shorter; otherwise the bytes in front and the rest as it
-- was. An output may be longer than what is written.
-- Assumes nothing.
use Rattle.std.specs.Prelude.{cond, List, [], ◌∷◌, ◌++◌, ℕ, leb, length, drop, Ok}
use Rattle.replies.specs.declared.Cause.TheVariants.{ShortOutput}
use Rattle.replies.specs.Replies.{refuses, unless, first_refusal, Reply}

-- third is the number of bytes written
unfoldable pub output_reply : List ℕ → List ℕ → Reply
output_reply bytes out = first_refusal (unless (leb (length bytes) (length out)) ShortOutput 0 ∷ []) (Ok (length bytes))

-- the output afterwards
unfoldable pub output_after : List ℕ → List ℕ → List ℕ
output_after bytes out = cond (refuses (output_reply bytes out)) out (bytes ++ drop (length bytes) out)
