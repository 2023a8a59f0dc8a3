-- What the readers of joints, links and kinds answer, from what they found.
-- Assumes nothing.
use mathlib.Core.Path.{◌≡◌, refl, sym, ap, ◌∙◌, subst}
use mathlib.Core.Logic.{◌≢◌}
use mathlib.Core.List.{List, [], ◌∷◌}
use Prim.Native.Nat.{ℕ, ◌+◌, ◌<◌}
use native.Mathlib.Omega.{arith}
use lib.Dec.{ltb}
use lib.ListN.{take}
use Rattle.std.specs.Prelude.{Option, Result, Ok, Err, IsErrAnd}
use Rattle.replies.specs.declared.Cause.TheVariants.{OutOfRange}
use Rattle.replies.specs.Replies.{unless, first_refusal}
use Rattle.meaning.specs.Picture.Fact.{has_kind}
use Rattle.terms.specs.Term.{at_sign, colon, equals, greater, text_of}
use Rattle.terms.specs.Term.Written.{unwritten, written}
use Rattle.terms.specs.Term.Token.{joint, kind, link}
use Rattle.terms.specs.Language.{NoTerm}
use Rattle.terms.specs.Machine.{here, is_digit}
use Rattle.terms.specs.Machine.Role.{of_joint, of_kind}
use Rattle.term_reading.specs.declared.Front.{Front}
use Rattle.term_reading.specs.declared.Stuck.{Stuck}
use Rattle.term_reading.specs.ReadTerm.{longest_text}
use Rattle.term_reading.specs.Reading.{Told, NumberRead, Sound, wrong_reply, Said, lead_facts, JointStep, LinkStep, KindStep}
use Rattle.term_reading.specs.Reading.{KindMissing, HeadRead, Awaited}
use Rattle.term_reading.proofs.Segments.{passed, no_tokens, then, a_sign, a_number}
use Rattle.term_reading.proofs.Facts.{nothing_said}
use Rattle.term_reading.proofs.Contexts.{spans, stuck_at_kind}
use Rattle.term_reading.proofs.Terms.{with_facts, led_sound, head_read}

-- what holds of an error holds where `?` hands it on
pub handed_on : {A : Type 0} {Holds : Result A Stuck → Type 0} {r : Result A Stuck} (stuck : Stuck) → IsErrAnd r (λ y. y ≡ stuck) →
    Holds (Err stuck) → Told Holds r
handed_on {r = Ok x} stuck e h = absurd e
handed_on {Holds = Holds} {r = Err y} stuck e h = record { is = subst (λ (s : Stuck). Holds (Err s)) (sym e) h }

-- the number of the first one out of range, with a number x at p that has to lie below a limit
abbrev pub Next : Option ℕ → ℕ → ℕ → ℕ → Option ℕ → Type 0
Next before x limit p after = wrong_reply after ≡ first_refusal (wrong_reply before ∷ []) (unless (ltb x limit) OutOfRange p)

module _ (text : List ℕ) (from : Front) (sound : Sound text from) where
  pub joint_step : (v x end : ℕ) (wrong : Option ℕ) → here text from.at ≡ at_sign → NumberRead text (from.at + 1) x end →
      Next from.wrong x v (from.at + 1) wrong →
      JointStep text v from (Ok (x, record { at = end; facts = from.facts; wrong = wrong }))
  joint_step v x end wrong h r w = (
    λ n.
        record {
          short = r.short;
          segment =
              then n v text (a_sign n v text from at_sign h (omega arith))
              (a_number n v text (passed from) (joint x) x v end from.facts wrong r refl refl w);
          facts = refl;
          sound = record { long = sound.long; inside = r.inside; few = omega (arith, sound.few, r.ends) };
        },
    λ around. r.ended of_joint around,
  )

  pub link_step : (x end : ℕ) (wrong : Option ℕ) → NumberRead text from.at x end → here text end ≡ equals → here text (end + 1) ≡ greater →
      Next from.wrong x 16 from.at wrong →
      LinkStep text from (Ok (x, record { at = end + 2; facts = from.facts; wrong = wrong }))
  link_step x end wrong r h g w n v =
      let number : Front = record { at = end; facts = from.facts; wrong = wrong } in
      let last = then n v text (a_number n v text from (link x) x 16 end from.facts wrong r refl refl w)
      (then n v text (a_sign n v text number equals h (omega arith)) (a_sign n v text (passed number) greater g (omega arith))) in
      let place : end + 1 + 1 ≡ end + 2 = omega arith in
      record {
        short = r.short;
        segment =
            record {
              spelled = ap (λ (k : ℕ). take k text) (sym place) ∙ last.spelled;
              ends = sym place ∙ last.ends;
              inside = omega (arith, last.inside);
              range = last.range;
            };
        facts = refl;
        sound = record { long = sound.long; inside = omega (arith, last.inside); few = omega (arith, sound.few, r.ends) };
      }

  pub no_kind_step : (n j : ℕ) (s : List ℕ) → here text from.at ≢ colon → KindStep text n j from s (Ok from) s
  no_kind_step n j s h v =
      record {
        written = unwritten;
        short = tt;
        segment = no_tokens n v text from sound.inside;
        said = nothing_said from.facts s;
        ended = h;
        sound = sound;
      }

  pub kind_step : (n j x end facts : ℕ) (wrong : Option ℕ) (s t : List ℕ) → here text from.at ≡ colon → NumberRead text (from.at + 1) x end →
      Said (has_kind j x ∷ []) from.facts s facts t → Next from.wrong x n (from.at + 1) wrong →
      KindStep text n j from s (Ok (record { at = end; facts = facts; wrong = wrong })) t
  kind_step n j x end facts wrong s t h r said w v =
      record {
        written = written x;
        short = r.short;
        segment =
            then n v text (a_sign n v text from colon h (omega arith))
            (a_number n v text (passed from) (kind x) x n end facts wrong r refl refl w);
        said = said;
        ended = λ around. r.ended of_kind around;
        sound = record { long = sound.long; inside = r.inside; few = omega (arith, sound.few, r.ends, said.counted) };
      }

-- the head of a term, from its joint on
module _
    (text : List ℕ) (v : ℕ) (lead : Option (ℕ × ℕ)) (from : Front) (s : List ℕ) (sound : Sound text from) (j : ℕ) (behind : Front)
    (joint_answer : JointStep text v from (Ok (j, behind)))
  where
    -- there is a byte for each fact
    pub lead_room : behind.facts < longest_text
    unfolding text_of
    lead_room = let r = joint_answer.0 0 in omega (arith, r.facts, sound.few, r.segment.ends, r.segment.inside, sound.long)

    module _ (facts : ℕ) {t : List ℕ} (led : Said (lead_facts lead j) behind.facts s facts t) where
      pub kind_room : Sound text (with_facts behind facts)
      kind_room = led_sound text 0 v lead from s j behind (joint_answer.0 0) facts sound led

      pub head_done : (n : ℕ) (end : Front) (u : List ℕ) → KindStep text n j (with_facts behind facts) t (Ok end) u →
          HeadRead text n v lead from s j end u
      head_done n end u answer = head_read text n v lead from s j behind (joint_answer.0 n) joint_answer.1 facts led end (answer v)

    pub head_stuck : (p around : ℕ) → KindMissing text behind.at p → Awaited text around from.at → NoTerm text p
    head_stuck p around m w =
        subst (NoTerm text) (sym m.behind)
        (stuck_at_kind text around from.at w j behind.at (joint_answer.0 0).short (spans (joint_answer.0 0).segment) m.stands
        (joint_answer.1 around) (ap (λ (k : ℕ). is_digit (here text k)) (sym m.behind) ∙ m.missing))
