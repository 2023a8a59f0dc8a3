-- Stretches of a text: a sign, a number, one stretch behind the other; and the first number out of range along them.
-- Assumes nothing.
use mathlib.Core.Path.{◌≡◌, refl, sym, ap, ◌∙◌}
use mathlib.Core.Logic.{by_cases}
use mathlib.Core.Bool.{Bool, true, false, cond, true≢false}
use mathlib.Core.List.{List, [], ◌∷◌, ◌++◌, append-nil, append_assoc}
use Prim.Native.Nat.{ℕ, zero, suc, ◌+◌, ◌<◌, ◌≤◌}
use native.Mathlib.Omega.{arith}
use native.Mathlib.Decide.{dec_lt}
use native.Mathlib.Numerals.{add-one}
use native.Mathlib.Nat.{add-zero}
use lib.Dec.{ltb}
use lib.ListN.{length, get_or, take, length-append, get_or-eq_default}
use lib.Seq.{take-suc}
use borrow.Author.Tests.{lt-ltb, le-ltb}
use Rattle.std.specs.Prelude.{Option, Some, None, Ok, Err}
use Rattle.std.specs.Option.{is_some}
use Rattle.replies.specs.declared.Cause.TheVariants.{OutOfRange}
use Rattle.replies.specs.Replies.{unless, first_refusal, Reply, refusal}
use Rattle.terms.specs.Term.{Token, spell, text_of}
use Rattle.terms.specs.Term.Token.{sign, link}
use Rattle.terms.specs.Machine.{here, end}
use Rattle.terms.proofs.Running.{text_append}
use Rattle.term_reading.specs.declared.Front.{Front}
use Rattle.term_reading.specs.Range.{in_range, range_reply}
use Rattle.term_reading.specs.Reading.{Segment, wrong_reply, NumberRead}

-- a byte that is not the end stands within the text, and the beginning with it is longer by it
module _ (text : List ℕ) (p b : ℕ) (stands : here text p ≡ b) (byte : b < 256) where
  pub within : p < length text
  within =
      by_cases (dec_lt p (length text)) (λ h. h)
      (λ h. absurd (below (sym stands ∙ get_or-eq_default text end (omega arith))))
    where
      below : b ≡ 256 → ⊥
      below e = omega (arith, byte)

  pub with_byte : take (p + 1) text ≡ take p text ++ b ∷ []
  with_byte = ap (λ (k : ℕ). take k text) (add-one p) ∙ take-suc text p end within ∙ ap (λ (x : ℕ). take p text ++ x ∷ []) stands

-- the front behind one sign more
abbrev pub passed : Front → Front
passed f = record { at = f.at + 1; facts = f.facts; wrong = f.wrong }

-- the first refusal of three, taken in two ways
first_first : (a b c : Reply) → first_refusal (first_refusal (a ∷ []) b ∷ []) c ≡ first_refusal (a ∷ []) (first_refusal (b ∷ []) c)
unfolding first_refusal
first_first (Ok t) b c = refl
first_first (Err r) b c = refl

module _ (n v : ℕ) where
  -- numbers out of range along tokens that follow one another
  range_append :
      (xs ys : List Token) (offset : ℕ) →
      range_reply n v offset (xs ++ ys) ≡ first_refusal (range_reply n v offset xs ∷ []) (range_reply n v (offset + length (text_of xs)) ys)
  unfolding range_reply text_of first_refusal
  range_append [] ys offset = ap (λ (o : ℕ). range_reply n v o ys) (sym (add-zero offset))
  range_append (k ∷ xs) ys offset = by_range (in_range n v k) (range_append xs ys (offset + length (spell k)))
    where
      further : offset + length (spell k) + length (text_of xs) ≡ offset + length (spell k ++ text_of xs)
      further = omega (arith, length-append (spell k) (text_of xs))

      by_range : (b : Bool) →
          range_reply n v (offset + length (spell k)) (xs ++ ys) ≡
          first_refusal (range_reply n v (offset + length (spell k)) xs ∷ []) (range_reply n v (offset + length (spell k) + length (text_of xs)) ys) →
          cond b (range_reply n v (offset + length (spell k)) (xs ++ ys)) (refusal OutOfRange offset) ≡
          first_refusal (cond b (range_reply n v (offset + length (spell k)) xs) (refusal OutOfRange offset) ∷ [])
          (range_reply n v (offset + length (spell k ++ text_of xs)) ys)
      by_range true rest =
          rest ∙ ap (λ (o : ℕ). first_refusal (range_reply n v (offset + length (spell k)) xs ∷ []) (range_reply n v o ys)) further
      by_range false rest = refl

  module _ (text : List ℕ) where
    pub no_tokens : (f : Front) → f.at ≤ length text → Segment text n v f [] f
    unfolding text_of range_reply first_refusal
    no_tokens f h = record { spelled = sym (append-nil (take f.at text)); ends = sym (add-zero f.at); inside = h; range = none f.wrong }
      where
        none : (w : Option ℕ) → wrong_reply w ≡ first_refusal (wrong_reply w ∷ []) (Ok 0)
        none None = refl
        none (Some p) = refl

    -- one stretch behind the other
    pub then : {a b c : Front} {xs ys : List Token} → Segment text n v a xs b → Segment text n v b ys c → Segment text n v a (xs ++ ys) c
    then {a = a} {b = b} {c = c} {xs = xs} {ys = ys} s t =
        record {
          spelled =
              t.spelled ∙ ap (λ (l : List ℕ). l ++ text_of ys) s.spelled ∙ append_assoc (take a.at text) (text_of xs) (text_of ys)
              ∙ ap (λ (l : List ℕ). take a.at text ++ l) (sym (text_append xs ys));
          ends = omega (arith, s.ends, t.ends, ap length (text_append xs ys), length-append (text_of xs) (text_of ys));
          inside = t.inside;
          range =
              t.range ∙ ap (λ (r : Reply). first_refusal (r ∷ []) (range_reply n v b.at ys)) s.range
              ∙ first_first (wrong_reply a.wrong) (range_reply n v a.at xs) (range_reply n v b.at ys)
              ∙ ap (λ (o : ℕ). first_refusal (wrong_reply a.wrong ∷ []) (first_refusal (range_reply n v a.at xs ∷ []) (range_reply n v o ys))) s.ends
              ∙ ap (λ (r : Reply). first_refusal (wrong_reply a.wrong ∷ []) r) (sym (range_append xs ys a.at));
        }

    -- a sign
    pub a_sign : (f : Front) (b : ℕ) → here text f.at ≡ b → b < 256 → Segment text n v f (sign b ∷ []) (passed f)
    unfolding text_of range_reply
    a_sign f b e h =
        record {
          spelled = with_byte text f.at b e h;
          ends = refl;
          inside = omega (arith, within text f.at b e h);
          range = (no_tokens f (omega (arith, within text f.at b e h))).range;
        }

    -- a number, which stands for one token
    pub a_number : (f : Front) (k : Token) (x limit past facts : ℕ) (wrong : Option ℕ) → NumberRead text f.at x past → spell k ≡ spell (link x) →
        in_range n v k ≡ ltb x limit →
        wrong_reply wrong ≡ first_refusal (wrong_reply f.wrong ∷ []) (unless (ltb x limit) OutOfRange f.at) →
        Segment text n v f (k ∷ []) (record { at = past; facts = facts; wrong = wrong })
    unfolding text_of range_reply
    a_number f k x limit past wrong facts r e i w =
        record {
          spelled = r.spelled ∙ ap (λ (l : List ℕ). take f.at text ++ l) (sym e ∙ sym (append-nil (spell k)));
          ends = r.ends ∙ ap (λ (l : List ℕ). f.at + length l) (sym e ∙ sym (append-nil (spell k)));
          inside = r.inside;
          range = w ∙ ap (λ (b : Bool). first_refusal (wrong_reply f.wrong ∷ []) (unless b OutOfRange f.at)) (sym i);
        }

-- a byte that stands within the text is the same, whatever is given behind its end
pub same_byte : (text : List ℕ) (p : ℕ) → p < length text → get_or text p 0 ≡ here text p
same_byte [] p h = absurd (no_less h)
  where
    no_less : p < 0 → ⊥
    no_less l = omega (arith, l)
same_byte (b ∷ text) zero h = refl
same_byte (b ∷ text) (suc p) h = same_byte text p (omega (arith, h))

-- the first number out of range, with the next number in range
pub still_first : (wrong : Option ℕ) (x limit p : ℕ) → x < limit →
    wrong_reply wrong ≡ first_refusal (wrong_reply wrong ∷ []) (unless (ltb x limit) OutOfRange p)
unfolding first_refusal
still_first (Some q) x limit p h = refl
still_first None x limit p h = rw (lt-ltb x limit h)

-- with one before it
pub earlier_first : (wrong : Option ℕ) (next : Reply) → is_some wrong ≡ true → wrong_reply wrong ≡ first_refusal (wrong_reply wrong ∷ []) next
unfolding first_refusal
earlier_first (Some q) next e = refl
earlier_first None next e = absurd (true≢false (sym e))

-- and with the next number out of range and none before it
pub now_first : (wrong : Option ℕ) (x limit p : ℕ) → limit ≤ x → is_some wrong ≡ false →
    refusal OutOfRange p ≡ first_refusal (wrong_reply wrong ∷ []) (unless (ltb x limit) OutOfRange p)
unfolding first_refusal
now_first (Some q) x limit p h e = absurd (true≢false e)
now_first None x limit p h e = rw (le-ltb x limit h)
