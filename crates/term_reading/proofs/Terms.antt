-- What was read part by part, put together: heads, terms, arguments, and the loop over arguments.
-- Assumes nothing.
use mathlib.Core.Path.{◌≡◌, refl, sym, ap, ◌∙◌, subst}
use mathlib.Core.Logic.{◌≢◌}
use mathlib.Core.List.{List, [], ◌∷◌, ◌++◌, append_assoc}
use Prim.Native.Nat.{ℕ, zero, suc, ◌+◌, ◌-◌, ◌<◌, ◌≤◌}
use native.Mathlib.Omega.{arith}
use native.Mathlib.Nat.{add-zero}
use native.Mathlib.Numerals.{add-one}
use lib.ListN.{length, length-append}
use Rattle.std.specs.Prelude.{Option, Some, None, Result, Ok, Err}
use Rattle.meaning.specs.Picture.{Fact}
use Rattle.decimals.specs.Decimal.{decimal}
use Rattle.terms.specs.Term.{Written, Token, opening, closing, comma, equals, greater}
use Rattle.terms.specs.Term.{kind_tokens, head_tokens, link_tokens, term_tokens, argument_tokens, text_of}
use Rattle.terms.specs.Term.Written.{unwritten, written}
use Rattle.terms.specs.Term.Term.{bare, bracketed}
use Rattle.terms.specs.Term.Arguments.{one, more}
use Rattle.terms.specs.Term.Token.{sign}
use Rattle.terms.specs.Language.{Fits, NoTerm, deepest}
use Rattle.terms.specs.Facts.{joint_of, kind_facts, term_facts, argument_facts}
use Rattle.terms.specs.Machine.{here, step, behind_number, behind_head, digits_left, end_of_head}
use Rattle.terms.specs.Machine.Role.{of_joint}
use Rattle.terms.specs.Machine.Phase.{digits}
use Rattle.terms.specs.Machine.State.{live}
use Rattle.terms.proofs.Running.{no_colon, kind_behind, no_bracket}
use Rattle.term_reading.specs.declared.Front.{Front}
use Rattle.term_reading.specs.declared.Stuck.{Stuck}
use Rattle.term_reading.specs.Reading.{Sound, Segment, Said, lead_facts, Awaited, ArgumentsAwaited, NumberedRead, joint_tokens, KindEnded, KindRead}
use Rattle.term_reading.specs.Reading.{HeadRead, TermRead, ArgumentsRead, TermStep, ArgumentsStep}
use Rattle.term_reading.proofs.Segments.{passed, then, a_sign}
use Rattle.term_reading.proofs.Facts.{said_then}
use Rattle.term_reading.proofs.Contexts.{spans, arguments_awaited, stuck_at_depth, inner_awaited, next_awaited, stuck_behind_argument}

-- a front with other facts
abbrev pub with_facts : Front → ℕ → Front
with_facts f facts = record { at = f.at; facts = facts; wrong = f.wrong }

module _ {text : List ℕ} {n v : ℕ} {from : Front} where
  -- how many facts there are is no matter of the text
  from_counted : {end : Front} {xs : List Token} (facts : ℕ) → Segment text n v (with_facts from facts) xs end → Segment text n v from xs end
  from_counted facts s = record { spelled = s.spelled; ends = s.ends; inside = s.inside; range = s.range }

-- the head of a term: its joint, the fact that leads to it, and its kind
module _
    (text : List ℕ) (n v : ℕ) (lead : Option (ℕ × ℕ)) (from : Front) (s : List ℕ) (j : ℕ) (behind : Front)
    (joint_read : NumberedRead text n v joint_tokens from j behind)
  where
    pub led_sound : (facts : ℕ) {t : List ℕ} → Sound text from → Said (lead_facts lead j) behind.facts s facts t → Sound text (with_facts behind facts)
    unfolding text_of
    led_sound facts sound said =
        let segment = joint_read.segment in
        record { long = sound.long; inside = segment.inside; few = omega (arith, sound.few, segment.ends, said.counted, joint_read.facts, one_lead lead) }
      where
        one_lead : (x : Option (ℕ × ℕ)) → length (lead_facts x j) ≤ 1
        one_lead None = omega arith
        one_lead (Some x) = omega arith

    module _
        (digits_end :
        (around : ℕ) →
        step (live around (digits of_joint (digits_left j))) (here text behind.at) ≡ behind_number of_joint around (here text behind.at))
        (facts : ℕ) {t u : List ℕ} (led : Said (lead_facts lead j) behind.facts s facts t) (end : Front)
        (kind_read : KindRead text n v j (with_facts behind facts) t end u)
      where
        head_ended : (w : Written) → KindEnded text w end.at → Segment text n v (with_facts behind facts) (kind_tokens w) end → (around : ℕ) →
            step (live around (end_of_head j w)) (here text end.at) ≡ behind_head around (here text end.at)
        unfolding text_of
        head_ended unwritten e segment around =
            let here_same : here text end.at ≡ here text behind.at = ap (here text) (segment.ends ∙ add-zero behind.at) in
            ap (step (live around (digits of_joint (digits_left j)))) here_same ∙ digits_end around ∙ ap (behind_number of_joint around) (sym here_same)
            ∙ no_colon around (here text end.at) e
        head_ended (written k) e segment around = e around ∙ kind_behind around (here text end.at)

        pub head_read : HeadRead text n v lead from s j end u
        head_read =
            record {
              written = kind_read.written;
              joint_short = joint_read.short;
              kind_short = kind_read.short;
              segment = then n v text joint_read.segment (from_counted facts kind_read.segment);
              ended = head_ended kind_read.written kind_read.ended kind_read.segment;
              said = said_then (subst (λ (k : ℕ). Said (lead_facts lead j) k s facts t) joint_read.facts led) kind_read.said;
              sound = kind_read.sound;
            }

-- a term, from its head
module _
    (text : List ℕ) (n v around : ℕ) (lead : Option (ℕ × ℕ)) (from : Front) (s : List ℕ) (j : ℕ) (behind : Front) (t : List ℕ)
    (head : HeadRead text n v lead from s j behind t)
  where
    no_level : around < deepest → around + 0 ≡ deepest → ⊥
    no_level h e = omega (arith, h, e)

    pub bare_read : around < deepest → here text behind.at ≢ opening → TermRead text n v around lead from s behind t
    unfolding term_tokens term_facts
    bare_read shallow h =
        record {
          t = bare j head.written;
          fits = bare_fits;
          segment = head.segment;
          ended = head.ended around ∙ no_bracket around (here text behind.at) h;
          said = head.said;
          sound = head.sound;
        }
      where
        bare_fits : (levels : ℕ) → around + levels ≡ deepest → Fits (bare j head.written) levels
        bare_fits zero e = no_level shallow e
        bare_fits (suc levels) e = (head.joint_short, head.kind_short)

    bracketed_read : {end : Front} {u : List ℕ} → around < deepest → here text behind.at ≡ opening →
        ArgumentsRead text n v around j (passed behind) t end u → TermRead text n v around lead from s end u
    unfolding term_tokens term_facts step
    bracketed_read {end = end} {u = u} shallow h r =
        record {
          t = bracketed j head.written r.args;
          fits = bracketed_fits;
          segment =
              subst (λ (ks : List Token). Segment text n v from ks end) tokens
              (then n v text head.segment (then n v text (a_sign n v text behind opening h (omega arith)) r.segment));
          ended = refl;
          said =
              subst (λ (fs : List (Fact ℕ)). Said fs from.facts s end.facts u)
              (append_assoc (lead_facts lead j) (kind_facts j head.written) (argument_facts r.args j)) (said_then head.said r.said);
          sound = r.sound;
        }
      where
        bracketed_fits : (levels : ℕ) → around + levels ≡ deepest → Fits (bracketed j head.written r.args) levels
        bracketed_fits zero e = no_level shallow e
        bracketed_fits (suc levels) e = (head.joint_short, head.kind_short, r.fits levels e)

        tokens :
            head_tokens j head.written ++ (sign opening ∷ (argument_tokens r.args ++ sign closing ∷ [])) ≡
            head_tokens j head.written ++ sign opening ∷ argument_tokens r.args ++ sign closing ∷ []
        tokens = sym (append_assoc (head_tokens j head.written) (sign opening ∷ argument_tokens r.args) (sign closing ∷ []))

-- one argument of joint j, and what stands behind it
module _
    (text : List ℕ) (n v around j : ℕ) (front : Front) (s : List ℕ) (l : ℕ) (inner : Front) (link_read : NumberedRead text n v link_tokens front l inner)
    (end : Front) (t : List ℕ) (term_read : TermRead text n v (suc around) (Some (j, l)) inner s end t)
  where
    argument_segment : Segment text n v front (link_tokens l ++ term_tokens term_read.t) end
    argument_segment = then n v text link_read.segment term_read.segment

    argument_fits : (levels : ℕ) → around + suc levels ≡ deepest → Fits term_read.t levels
    argument_fits levels e = term_read.fits levels (let z : suc around + levels ≡ deepest = omega (arith, e) in z)

    argument_said : Said (lead_facts (Some (j, l)) (joint_of term_read.t) ++ term_facts term_read.t) front.facts s end.facts t
    argument_said =
        subst (λ (k : ℕ). Said (lead_facts (Some (j, l)) (joint_of term_read.t) ++ term_facts term_read.t) k s end.facts t)
        link_read.facts term_read.said

    passed_sound : (b : ℕ) → here text end.at ≡ b → b < 256 → Sound text (passed end)
    passed_sound b h small =
        record { long = term_read.sound.long; inside = (a_sign n v text end b h small).inside; few = omega (arith, term_read.sound.few) }

    -- the last one
    last_read : here text end.at ≡ closing → ArgumentsRead text n v around j front s (passed end) t
    unfolding argument_tokens argument_facts
    last_read h =
        record {
          args = one l term_read.t;
          fits = λ levels e. (link_read.short, argument_fits levels e);
          segment = then n v text argument_segment (a_sign n v text end closing h (omega arith));
          said = argument_said;
          sound = passed_sound closing h (omega arith);
        }

    -- one with others behind it
    another_read : {last : Front} {u : List ℕ} → here text end.at ≡ comma → ArgumentsRead text n v around j (passed end) t last u →
        ArgumentsRead text n v around j front s last u
    unfolding argument_tokens argument_facts
    another_read {last = last} {u = u} h r =
        record {
          args = more l term_read.t r.args;
          fits = λ levels e. (link_read.short, argument_fits levels e, r.fits levels e);
          segment =
              subst (λ (ks : List Token). Segment text n v front ks last) tokens
              (then n v text argument_segment (then n v text (a_sign n v text end comma h (omega arith)) r.segment));
          said = said_then argument_said r.said;
          sound = r.sound;
        }
      where
        tokens :
            (link_tokens l ++ term_tokens term_read.t) ++ (sign comma ∷ (argument_tokens r.args ++ sign closing ∷ [])) ≡
            link_tokens l ++ term_tokens term_read.t ++ sign comma ∷ argument_tokens r.args ++ sign closing ∷ []
        tokens = sym (append_assoc (link_tokens l ++ term_tokens term_read.t) (sign comma ∷ argument_tokens r.args) (sign closing ∷ []))

-- a link has at least its two signs
link_long : (l : ℕ) → 2 ≤ length (text_of (link_tokens l))
unfolding text_of
link_long l = omega (arith, length-append (decimal l) (equals ∷ greater ∷ []))

-- the loop over arguments: whatever reads the arguments from here on reads all of them
pub record Going (text : List ℕ) (n v around j : ℕ) (from : Front) (s : List ℕ) (front : Front) (t : List ℕ) : Type 0 where
  pub sound : Sound text front
  pub forward : from.at ≤ front.at
  pub awaited : ArgumentsAwaited text around front.at
  pub whole : (end : Front) (u : List ℕ) → ArgumentsRead text n v around j front t end u → ArgumentsRead text n v around j from s end u

pub begins : {text : List ℕ} {n v around j : ℕ} {from : Front} {s : List ℕ} → Sound text from → ArgumentsAwaited text around from.at →
    Going text n v around j from s from s
begins sound awaited = record { sound = sound; forward = omega arith; awaited = awaited; whole = λ end u r. r }

module _
    {text : List ℕ} {n v around j : ℕ} {from : Front} {s : List ℕ} {front : Front} {t : List ℕ} (g : Going text n v around j from s front t)
    {l : ℕ} {inner : Front} (link_read : NumberedRead text n v link_tokens front l inner)
  where
    -- the term of an argument may stand behind its link
    pub inner_term : Awaited text (suc around) inner.at
    inner_term =
        inner_awaited text around front.at g.awaited l inner.at link_read.short (spans link_read.segment)

    -- every call is nearer to the end of the text
    pub inner_nearer : length text - inner.at < length text - from.at
    inner_nearer = omega (arith, link_long l, g.forward, link_read.segment.ends, link_read.segment.inside)

    module _ {end : Front} {u : List ℕ} (term_read : TermRead text n v (suc around) (Some (j, l)) inner t end u) where
      pub next_nearer : {next : Front} → next ≡ passed end → length text - next.at < length text - front.at
      next_nearer {next = next} e =
          omega (arith, link_long l, link_read.segment.ends, term_read.segment.ends, link_read.segment.inside, ap (λ (f : Front). f.at) e)

      goes_on_at : here text end.at ≡ comma → Going text n v around j from s (passed end) u
      goes_on_at h =
          record {
            sound = passed_sound text n v around j front t l inner link_read end u term_read comma h (omega arith);
            forward = omega (arith, g.forward, link_read.segment.ends, term_read.segment.ends);
            awaited =
                next_awaited text around front.at g.awaited l inner.at link_read.short (spans link_read.segment)
                term_read.t end.at term_read.sound.inside term_read.fits (spans term_read.segment) term_read.ended h;
            whole = λ last w r. g.whole last w (another_read text n v around j front t l inner link_read end u term_read h r);
          }

      pub goes_on : {next : Front} → next ≡ passed end → here text end.at ≡ comma → Going text n v around j from s next u
      goes_on {next = next} e h = subst (λ (f : Front). Going text n v around j from s f u) (sym e) (goes_on_at h)

      pub ends : {next : Front} → next ≡ passed end → here text end.at ≡ closing → ArgumentsRead text n v around j from s next u
      ends e h =
          subst (λ (f : Front). ArgumentsRead text n v around j from s f u) (sym e)
          (g.whole (passed end) u (last_read text n v around j front t l inner link_read end u term_read h))

      pub breaks_off : here text end.at ≢ comma → here text end.at ≢ closing → NoTerm text end.at
      breaks_off h k =
          stuck_behind_argument text around front.at g.awaited l inner.at link_read.short (spans link_read.segment)
          term_read.t end.at term_read.sound.inside term_read.fits (spans term_read.segment) term_read.ended h k

-- one level deeper, as the code counts it
pub deeper : {text : List ℕ} {n v around j l : ℕ} {inner : Front} {t : List ℕ} {end : Front} {u : List ℕ} →
    TermRead text n v (around + 1) (Some (j, l)) inner t end u → TermRead text n v (suc around) (Some (j, l)) inner t end u
deeper {text = text} {n = n} {v = v} {around = around} {j = j} {l = l} {inner = inner} {t = t} {end = end} {u = u} r =
    subst (λ (k : ℕ). TermRead text n v k (Some (j, l)) inner t end u) (add-one around) r

pub awaited_deeper : {text : List ℕ} {around p : ℕ} → Awaited text (suc around) p → Awaited text (around + 1) p
awaited_deeper {text = text} {around = around} {p = p} w = subst (λ (k : ℕ). Awaited text k p) (sym (add-one around)) w

-- a term whose head is read, and a bracket behind it
module _
    {text : List ℕ} {n v around : ℕ} {lead : Option (ℕ × ℕ)} {from : Front} {s : List ℕ} {j : ℕ} {behind : Front} {t : List ℕ} (w : Awaited text around from.at)
    (head : HeadRead text n v lead from s j behind t) (h : here text behind.at ≡ opening) {next : Front} (e : next ≡ passed behind)
  where
    pub next_sound : Sound text next
    next_sound =
        subst (Sound text) (sym e) (record { long = head.sound.long; inside = (a_sign n v text behind opening h (omega arith)).inside; few = omega (arith, head.sound.few) })

    pub next_awaited_arguments : around ≢ 15 → ArgumentsAwaited text around next.at
    next_awaited_arguments d =
        subst (λ (f : Front). ArgumentsAwaited text around f.at) (sym e)
        (arguments_awaited text around from.at w j head.written behind.at head.joint_short head.kind_short (spans head.segment) h
        (head.ended around) d)

    pub arguments_nearer : length text - next.at < length text - from.at
    arguments_nearer = omega (arith, head.segment.ends, next_sound.inside, ap (λ (f : Front). f.at) e)

    pub term_step : (r : Result Front Stuck) (u : List ℕ) → ArgumentsStep text n v around j next t r u → TermStep text n v around lead from s r u
    term_step (Ok end) u a =
        bracketed_read text n v around lead from s j behind t head w.shallow h (subst (λ (f : Front). ArgumentsRead text n v around j f t end u) e a)
    term_step (Err stuck) u a = a

pub too_deep : {text : List ℕ} {n v around : ℕ} {lead : Option (ℕ × ℕ)} {from : Front} {s : List ℕ} {j : ℕ} {behind : Front} {t : List ℕ} →
    Awaited text around from.at → HeadRead text n v lead from s j behind t → here text behind.at ≡ opening → around ≡ 15 → NoTerm text behind.at
too_deep {text = text} {around = around} {from = from} {j = j} {behind = behind} w head h e =
    stuck_at_depth text around from.at w j head.written behind.at head.joint_short head.kind_short (spans head.segment) h
    (head.ended around) e
