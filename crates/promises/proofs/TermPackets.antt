-- The packet that a term becomes, where the term's numbers are in range and its facts at most 1,088: it is well formed for taking, and says
-- exactly the term's facts. The numbers of the facts are numbers of the text.
-- Assumes nothing.
use mathlib.Core.Path.{◌≡◌, refl}
use mathlib.Core.List.{[], ◌∷◌, ◌++◌, map}
use Prim.Native.Nat.{ℕ, ◌<◌, ◌≤◌}
use lib.ListN.{length}
use borrow.Author.Tests.{lt-ltb}
use Rattle.std.specs.Prelude.{Ok}
use Rattle.meaning.specs.Picture.{rename}
use Rattle.meaning.specs.Form.{rig_joint}
use Rattle.packets.specs.Facts.{rig_facts}
use Rattle.packets.proofs.FactsPacket.{written_says}
use Rattle.screening.specs.Screening.{facts_wanted, packet_reply}
use Rattle.screening.proofs.Written.{written_well}
use Rattle.terms.specs.Term.{Written, Term, Arguments, term_tokens, argument_tokens, head_tokens, kind_tokens, link_tokens}
use Rattle.terms.specs.Term.Token.{sign}
use Rattle.terms.specs.Term.{opening, closing, comma}
use Rattle.terms.specs.Term.Written.{unwritten, written}
use Rattle.terms.specs.Term.Term.{bare, bracketed}
use Rattle.terms.specs.Term.Arguments.{one, more}
use Rattle.terms.specs.Facts.{term_facts}
use Rattle.term_reading.specs.Range.{range_reply}
use Rattle.term_reading.specs.ReadTerm.{most_facts, term_packet}
use Rattle.replies.proofs.Laws.{each_append}
use Rattle.term_reading.proofs.InRange.{In, AllIn, tells, facts_in_range}
use Rattle.term_writing.proofs.LinkTerms.{KindBelow, Ranged, ArgumentsRanged}

module _ (n v : ℕ) where
  -- a term whose numbers are in range has all its tokens in range
  kind_tokens_lem : (s : Written) → KindBelow n s → AllIn n v (kind_tokens s)
  kind_tokens_lem unwritten h = tt
  kind_tokens_lem (written s) h = (refl, (lt-ltb s n h, tt))

  head_tokens_lem : (j : ℕ) (s : Written) → j < v → KindBelow n s → AllIn n v (head_tokens j s)
  head_tokens_lem j s h k = (refl, (lt-ltb j v h, kind_tokens_lem s k))

  link_tokens_lem : (l : ℕ) → l < 16 → AllIn n v (link_tokens l)
  link_tokens_lem l h = (lt-ltb l 16 h, (refl, (refl, tt)))

  mutual
    unfolding term_tokens

    term_tokens_lem : (t : Term) → Ranged n v t → AllIn n v (term_tokens t)
    term_tokens_lem (bare j s) r = head_tokens_lem j s r.0 r.1
    term_tokens_lem (bracketed j s args) r =
        each_append (In n v) (head_tokens j s ++ sign opening ∷ argument_tokens args) (sign closing ∷ [])
        (each_append (In n v) (head_tokens j s) (sign opening ∷ argument_tokens args) (head_tokens_lem j s r.0 r.1) (refl, argument_tokens_lem args r.2))
        (refl, tt)

    argument_tokens_lem : (args : Arguments) → ArgumentsRanged n v args → AllIn n v (argument_tokens args)
    argument_tokens_lem (one l t) r = each_append (In n v) (link_tokens l) (term_tokens t) (link_tokens_lem l r.0) (term_tokens_lem t r.1)
    argument_tokens_lem (more l t args) r =
        each_append (In n v) (link_tokens l ++ term_tokens t) (sign comma ∷ argument_tokens args)
        (each_append (In n v) (link_tokens l) (term_tokens t) (link_tokens_lem l r.0) (term_tokens_lem t r.1))
        (refl, argument_tokens_lem args r.2)

  pub ranged_passes : (t : Term) → Ranged n v t → range_reply n v 0 (term_tokens t) ≡ Ok 0
  ranged_passes t r = tells n v 0 (term_tokens t) (term_tokens_lem t r)

  module _ (t : Term) where
    pub term_packet_well : range_reply n v 0 (term_tokens t) ≡ Ok 0 → length (term_facts t) ≤ most_facts →
        packet_reply (facts_wanted v) n v (term_packet v t) ≡ Ok 0
    term_packet_well e few = written_well n v (term_facts t) few (facts_in_range n v t e)

    pub term_packet_says : rig_facts (term_packet v t) ≡ map (rename rig_joint) (term_facts t)
    term_packet_says = written_says v (term_facts t)
