-- Reading a rig typed as a term: replies 1, 4, 20, 21, 22 and 12; the packet of its facts, and the rest of the output unchanged.
-- Assumes nothing.
use Rattle.std.specs.Prelude.{◌≡◌, true, cond, List, [], ◌∷◌, map, ℕ, ◌^◌, leb, length, Ok}
use Rattle.replies.specs.declared.Cause.TheVariants.{BadSize, NoTerm as no_term_cause, TooManyFacts}
use Rattle.replies.specs.Replies.{refuses, unless, first_refusal, Reply, refusal}
use Rattle.meaning.specs.Picture.{rename}
use Rattle.meaning.specs.Form.{rig_joint}
use Rattle.packets.specs.FactsPacket.{facts_packet}
use Rattle.joints.specs.Layout.{kinds_of, joints_of}
use Rattle.blocks.specs.WellFormed.{block_reply}
use Rattle.outputs.specs.Output.{output_reply, output_after}
use Rattle.terms.specs.Term.{Term, term_tokens}
use Rattle.terms.specs.Language.{Reading, NoTerm}
use Rattle.terms.specs.Facts.{term_facts}
use Rattle.term_reading.specs.Range.{range_reply}

-- the most bytes of a text
abbrev pub longest_text : ℕ
longest_text = 2 ^ 24

abbrev pub most_facts : ℕ
most_facts = 1088

-- replies 1 and 4, the first in this order; done where none fits
unfoldable pub read_term_refusal : List ℕ → List ℕ → Reply
read_term_refusal b text = first_refusal (unless (leb (length text) longest_text) BadSize 0 ∷ []) (block_reply b)

-- the packet that a term of at most 1,088 facts becomes, for v joints
abbrev pub term_packet : ℕ → Term → List ℕ
term_packet v t = facts_packet v (map (rename rig_joint) (term_facts t))

-- of a text that reads as the term t, with n kinds and v joints: replies 21, 22 and 12, the first in this order
unfoldable pub term_reply : ℕ → ℕ → Term → List ℕ → Reply
term_reply n v t out =
    first_refusal (range_reply n v 0 (term_tokens t) ∷ unless (leb (length (term_facts t)) most_facts) TooManyFacts 0 ∷ []) (output_reply (term_packet v t) out)

-- the output afterwards
unfoldable pub term_output : ℕ → ℕ → Term → List ℕ → List ℕ
term_output n v t out = cond (refuses (term_reply n v t out)) out (output_after (term_packet v t) out)

-- the reply to reading the text, and the output afterwards
pub data ReadTerm (b text out : List ℕ) (reply : Reply) (after : List ℕ) : Type 0 where
  refused : refuses (read_term_refusal b text) ≡ true → reply ≡ read_term_refusal b text → after ≡ out → ReadTerm b text out reply after
  no_term : read_term_refusal b text ≡ Ok 0 → (p : ℕ) → NoTerm text p → reply ≡ refusal no_term_cause p → after ≡ out →
      ReadTerm b text out reply after
  term : read_term_refusal b text ≡ Ok 0 → (t : Term) → Reading text t → reply ≡ term_reply (kinds_of b) (joints_of b) t out →
      after ≡ term_output (kinds_of b) (joints_of b) t out →
      ReadTerm b text out reply after
