-- A number of one, two or three digits where it stands in a text.
-- Assumes nothing.
use mathlib.Core.Path.{◌≡◌, refl, sym, ap, ◌∙◌}
use mathlib.Core.Logic.{◌≢◌}
use mathlib.Core.Bool.{false}
use mathlib.Core.List.{List, [], ◌∷◌, ◌++◌, append_assoc}
use Prim.Native.Nat.{ℕ, ◌+◌, ◌*◌, ◌≤◌}
use native.Mathlib.Omega.{arith}
use lib.ListN.{length, take}
use borrow.Author.Tests.{ne_eqb, le-ltb}
use Rattle.decimals.specs.Decimal.{digit, decimal}
use Rattle.decimals.proofs.Decimals.{one_digit}
use Rattle.terms.specs.Machine.{Role, here, is_digit, step, next_digit, behind_number, digits_left}
use Rattle.terms.specs.Machine.Phase.{digits}
use Rattle.terms.specs.Machine.State.{live}
use Rattle.terms.proofs.Numbers.{two_digits, three_digits}
use Rattle.terms.proofs.Running.{behind_number_lem}
use Rattle.term_reading.specs.Reading.{DigitAt, NumberRead}
use Rattle.term_reading.proofs.Segments.{within, with_byte}

-- behind the last digit that a number may have
no_more : (role : Role) (around b : ℕ) → step (live around (digits role 0)) b ≡ behind_number role around b
unfolding step next_digit
no_more role around b = refl

three_left : (x : ℕ) → 100 ≤ x → digits_left x ≡ 0
three_left x h = rw (ne_eqb x 0 (λ e. omega (arith, h, e)), le-ltb x 10 (omega arith), le-ltb x 100 h)

module _ (text : List ℕ) (from : ℕ) where
  -- the number 0
  pub zero_read : {a : ℕ} → DigitAt text from a → a ≡ 0 → NumberRead text from 0 (from + 1)
  zero_read d z =
      let e : here text from ≡ 48 = d.stands ∙ ap digit z in
      let spelled : decimal 0 ≡ 48 ∷ [] = one_digit 0 (omega arith) in
      record {
        short = omega arith;
        spelled = with_byte text from 48 e (omega arith) ∙ ap (λ (l : List ℕ). take from text ++ l) (sym spelled);
        ends = ap (λ (l : List ℕ). from + length l) (sym spelled);
        inside = omega (arith, within text from 48 e (omega arith));
        ended = λ role around. no_more role around (here text (from + 1));
      }

  -- behind a first digit, which is not 0
  module _ {a : ℕ} (first : DigitAt text from a) (some : a ≢ 0) where
    pub one_read : is_digit (here text (from + 1)) ≡ false → NumberRead text from a (from + 1)
    one_read end =
        let spelled = one_digit a first.small in
        record {
          short = omega (arith, first.small);
          spelled =
              with_byte text from (digit a) first.stands (omega (arith, first.small)) ∙ ap (λ (l : List ℕ). take from text ++ l) (sym spelled);
          ends = ap (λ (l : List ℕ). from + length l) (sym spelled);
          inside = omega (arith, within text from (digit a) first.stands (omega (arith, first.small)));
          ended = λ role around. behind_number_lem role (digits_left a) around (here text (from + 1)) end;
        }

    module _ {b : ℕ} (second : DigitAt text (from + 1) b) where
      two_bytes : take (from + 2) text ≡ take from text ++ digit a ∷ digit b ∷ []
      two_bytes =
          ap (λ (k : ℕ). take k text) (let z : from + 2 ≡ from + 1 + 1 = omega arith in z)
          ∙ with_byte text (from + 1) (digit b) second.stands (omega (arith, second.small))
          ∙ ap (λ (l : List ℕ). l ++ digit b ∷ []) (with_byte text from (digit a) first.stands (omega (arith, first.small)))
          ∙ append_assoc (take from text) (digit a ∷ []) (digit b ∷ [])

      pub two_read : is_digit (here text (from + 2)) ≡ false → NumberRead text from (10 * a + b) (from + 2)
      two_read end =
          let spelled = two_digits a b (omega (arith, some)) first.small second.small in
          record {
            short = omega (arith, first.small, second.small);
            spelled = two_bytes ∙ ap (λ (l : List ℕ). take from text ++ l) (sym spelled);
            ends = ap (λ (l : List ℕ). from + length l) (sym spelled);
            inside = omega (arith, within text (from + 1) (digit b) second.stands (omega (arith, second.small)));
            ended = λ role around. behind_number_lem role (digits_left (10 * a + b)) around (here text (from + 2)) end;
          }

      pub three_read : {c : ℕ} → DigitAt text (from + 2) c → NumberRead text from (10 * (10 * a + b) + c) (from + 3)
      three_read {c = c} third =
          let spelled = three_digits a b c (omega (arith, some)) first.small second.small third.small in
          record {
            short = omega (arith, first.small, second.small, third.small);
            spelled =
                ap (λ (k : ℕ). take k text) (let z : from + 3 ≡ from + 2 + 1 = omega arith in z)
                ∙ with_byte text (from + 2) (digit c) third.stands (omega (arith, third.small))
                ∙ ap (λ (l : List ℕ). l ++ digit c ∷ []) two_bytes
                ∙ append_assoc (take from text) (digit a ∷ digit b ∷ []) (digit c ∷ [])
                ∙ ap (λ (l : List ℕ). take from text ++ l) (sym spelled);
            ends = ap (λ (l : List ℕ). from + length l) (sym spelled);
            inside = omega (arith, within text (from + 2) (digit c) third.stands (omega (arith, third.small)));
            ended =
                λ role around.
                ap (λ (k : ℕ). step (live around (digits role k)) (here text (from + 3)))
                (three_left (10 * (10 * a + b) + c) (omega (arith, some)))
                ∙ no_more role around (here text (from + 3));
          }
