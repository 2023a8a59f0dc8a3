-- The third number of reading is below 2^24, so that the packed number keeps it apart from the place: a refusal has third 0, and a packet of at
-- most 1,088 facts has at most 4,358 bytes.
-- Assumes nothing.
use mathlib.Core.Path.{◌≡◌, refl}
use mathlib.Core.Logic.{by_cases}
use mathlib.Core.Bool.{Bool, true, false}
use mathlib.Core.List.{List}
use Prim.Native.Nat.{ℕ, ◌^◌, ◌<◌, ◌≤◌}
use native.Mathlib.Omega.{arith}
use native.Mathlib.Decide.{dec_lt}
use lib.ListN.{length}
use Rattle.std.specs.Prelude.{Ok}
use Rattle.replies.specs.Replies.{refuses, third, Reply}
use Rattle.replies.proofs.Laws.{refusal_third}
use Rattle.packets.proofs.FactsPacket.{size_is}
use Rattle.joints.specs.Layout.{kinds_of, joints_of}
use Rattle.outputs.proofs.Output.{output_third}
use Rattle.terms.specs.Term.{Term, term_tokens}
use Rattle.terms.specs.Facts.{term_facts}
use Rattle.term_reading.specs.Range.{range_reply}
use Rattle.term_reading.specs.ReadTerm.{ReadTerm, most_facts, read_term_refusal, term_packet, term_reply}
use Rattle.term_reading.specs.ReadTerm.ReadTerm.{refused, no_term, term}
use Rattle.term_reading.proofs.InRange.{range_done}
use Rattle.term_reading.proofs.Answers.{range_refuses, many_refuses, goes_out}

module _ (b : List ℕ) (t : Term) (out : List ℕ) where
  abbrev ranged : Reply
  ranged = range_reply (kinds_of b) (joints_of b) 0 (term_tokens t)

  abbrev packet : List ℕ
  packet = term_packet (joints_of b) t

  out_of_range : refuses ranged ≡ true → third (term_reply (kinds_of b) (joints_of b) t out) < 2 ^ 24
  out_of_range e = rw (range_refuses (kinds_of b) (joints_of b) t out refl e, refusal_third ranged e) (omega arith)

  too_many : ranged ≡ Ok 0 → most_facts < length (term_facts t) → third (term_reply (kinds_of b) (joints_of b) t out) < 2 ^ 24
  too_many e h = rw (many_refuses (kinds_of b) (joints_of b) t out e h) (omega arith)

  few_enough : ranged ≡ Ok 0 → length (term_facts t) ≤ most_facts → third (term_reply (kinds_of b) (joints_of b) t out) < 2 ^ 24
  few_enough e h =
      rw (goes_out (kinds_of b) (joints_of b) t out e h) (output_third packet out (omega (arith, size_is (joints_of b) (term_facts t))))

  term_third : third (term_reply (kinds_of b) (joints_of b) t out) < 2 ^ 24
  term_third = by_range (refuses ranged) refl
    where
      by_range : (s : Bool) → refuses ranged ≡ s → third (term_reply (kinds_of b) (joints_of b) t out) < 2 ^ 24
      by_range true e = out_of_range e
      by_range false e =
          let q = range_done (kinds_of b) (joints_of b) 0 (term_tokens t) e in
          by_cases (dec_lt most_facts (length (term_facts t))) (too_many q) (λ d. few_enough q (omega arith))

pub read_term_third : {b text out after : List ℕ} {r : Reply} → ReadTerm b text out r after → third r < 2 ^ 24
read_term_third {b} {text} (refused e q k) = rw (q, refusal_third (read_term_refusal b text) e) (omega arith)
read_term_third (no_term d p u q k) = rw q (omega arith)
read_term_third {b} {out = out} (term d t u q k) = rw q (term_third b t out)
