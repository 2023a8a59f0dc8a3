-- Reply 21: the numbers of a text that are out of range.
-- Assumes nothing.
use Rattle.replies.specs.Replies.{Reply, refusal}
use Rattle.std.specs.Prelude.{Bool, true, cond, List, [], ◌∷◌, ℕ, ◌+◌, ltb, length, Ok}
use Rattle.replies.specs.declared.Cause.TheVariants.{OutOfRange}
use Rattle.terms.specs.Term.{Token, spell}
use Rattle.terms.specs.Term.Token.{sign, joint, kind, link}

-- joints below v, kinds below n, links below 16
abbrev pub in_range : ℕ → ℕ → Token → Bool
in_range n v (sign b) = true
in_range n v (joint j) = ltb j v
in_range n v (kind s) = ltb s n
in_range n v (link l) = ltb l 16

-- the tokens of a text from the offset on: refused at the first digit of the first number out of range, done where there is none
unfoldable pub range_reply : ℕ → ℕ → ℕ → List Token → Reply
range_reply n v offset [] = Ok 0
range_reply n v offset (k ∷ ks) = cond (in_range n v k) (range_reply n v (offset + length (spell k)) ks) (refusal OutOfRange offset)
