-- Bytes put behind a line's text, one run after the other; the empty line with a text put into it holds that text.
-- Assumes nothing.
use mathlib.Core.Path.{◌≡◌, refl, ◌∙◌, ap}
use mathlib.Core.List.{List, [], ◌∷◌, ◌++◌}
use Prim.Native.Nat.{ℕ, zero, suc, ◌+◌, ◌-◌, ◌/◌, ◌%◌, ◌^◌, ◌≤◌, ◌<◌}
use native.Mathlib.Omega.{arith}
use native.Mathlib.Numerals.{add-one}
use native.Mathlib.Nat.{add-zero, add-suc, suc-add, sub-zero, zero-sub, suc-sub-suc}
use lib.ListN.{length, get_or, take, drop, set, replicate, length-append}
use lib.Seq.{sets, sets-eq, take-suc, take-length, length-take-le}
use Rattle.std.proofs.lemmas.List.{take_at}
use Rattle.lines.specs.declared.Line.{Line}
use Rattle.lines.specs.Text.{blank, line_feed, line, longest_word, room, holding, put}
use Rattle.decimals.specs.Decimal.{digit, longest_number, decimal}
use Rattle.decimals.proofs.Decimals.{one_digit, more_digits, length_digits}

sets_append : (l : List ℕ) (i : ℕ) (a b : List ℕ) → sets (sets l i a) (i + length a) b ≡ sets l i (a ++ b)
sets_append l i [] b = rw (add-zero i)
sets_append l i (x ∷ a) b = rw (add-suc, ← suc-add i (length a)) (sets_append (set l i x) (suc i) a b)

pub put_put : (l : Line) (a b : List ℕ) → put (put l a) b ≡ put l (a ++ b)
put_put l a b = cc (sets_append l.bytes l.size a b, let e : l.size + length a + length b ≡ l.size + length (a ++ b) = omega (arith, length-append a b) in e)

drop_replicate : (k n x : ℕ) → drop k (replicate n x) ≡ replicate (n - k) x
drop_replicate zero n x = rw (sub-zero n)
drop_replicate (suc k) zero x = rw (zero-sub (suc k))
drop_replicate (suc k) (suc n) x = rw (suc-sub-suc n k) (drop_replicate k n x)

pub put_empty : (text : List ℕ) → length text ≤ room → put (holding []) text ≡ holding text
put_empty text h =
    let none : List ℕ = replicate room 0 in
    let e : sets none 0 text ≡ text ++ drop (0 + length text) none = sets-eq text none 0 (omega arith) in
    let d : drop (length text) none ≡ replicate (room - length text) 0 = drop_replicate (length text) room 0 in
    let z : 0 + length text ≡ length text = omega arith in
    cc

-- a loop at i that puts a word behind the text of `before`
pub record Putting (before : Line) (word : List ℕ) (i : ℕ) (l : Line) : Type 0 where
  pub inside : i ≤ length word
  pub fits : before.size + length word ≤ room
  pub is : l ≡ put before (take i word)

module _ {before : Line} {word : List ℕ} where
  pub none_put : before.size + length word ≤ room → Putting before word 0 before
  none_put h = record { inside = omega arith; fits = h; is = rw (add-zero before.size) }

  module _ {i : ℕ} {l : Line} (p : Putting before word i l) where
    pub one_fits : i < length word → l.size < room
    one_fits h = omega (arith, p.fits, ap (λ (m : Line). m.size) p.is, length-take-le i word p.inside)

    pub byte_put : {r : Line} → i < length word → r ≡ put l (get_or word i 0 ∷ []) → Putting before word (i + 1) r
    byte_put {r} h e =
        record {
          inside = omega arith;
          fits = p.fits;
          is = e ∙ rw p.is (put_put before (take i word) (get_or word i 0 ∷ []) ∙ rw (add-one i, take-suc word i 0 h));
        }

    pub all_put : length word ≤ i → l ≡ put before word
    all_put h = p.is ∙ rw (let e : i ≡ length word = omega (arith, p.inside) in e, take-length word)

-- a number put behind the text of l: a digit, or the digits of a tenth of it and then its last
module _ (l : Line) (x : ℕ) {r : Line} {d : ℕ} where
  pub one_put : x < 10 → d ≡ digit x → r ≡ put l (d ∷ []) → r ≡ put l (decimal x)
  one_put h q e = e ∙ rw (one_digit x h, q)

  pub last_put : {m : Line} → 10 ≤ x → x < 10 ^ 10 → m ≡ put l (decimal (x / 10)) → d ≡ digit (x % 10) → r ≡ put m (d ∷ []) → r ≡ put l (decimal x)
  last_put h g p q e = e ∙ rw (p, q, more_digits x h g) (put_put l (decimal (x / 10)) (digit (x % 10) ∷ []))

pub size_of : (l : Line) (bytes : List ℕ) {r : Line} → r ≡ put l bytes → r.size ≡ l.size + length bytes
size_of l bytes e = ap (λ (m : Line). m.size) e

pub word_fits : (word : List ℕ) {none said : Line} → length word ≤ longest_word → none ≡ holding [] → said ≡ put none word → said.size ≤ longest_word
word_fits word {none} h e₀ e₁ = omega (arith, h, ap (λ (m : Line). m.size) e₀, size_of none word e₁)

pub number_fits : (l : Line) (x : ℕ) {r : Line} → r ≡ put l (blank ∷ decimal x) → r.size ≤ l.size + (1 + longest_number)
number_fits l x e = omega (arith, size_of l (blank ∷ decimal x) e, length_digits longest_number x)

pub line_fits : (word : List ℕ) (number place third : ℕ) → length word ≤ longest_word → length (line word number place third) ≤ room
unfolding line
line_fits word number place third h =
    simp length-append
    (omega (arith, length_digits longest_number number, length_digits longest_number place, length_digits longest_number third))

-- the parts of a line, put one behind the other
more : (z : Line) (text bytes : List ℕ) {l r : Line} → l ≡ put z text → r ≡ put l bytes → r ≡ put z (text ++ bytes)
more z text bytes p e = e ∙ rw p (put_put z text bytes)

pub all_parts :
    (word : List ℕ) (number place third : ℕ) {l₀ l₁ l₂ l₃ l₄ r : Line} → length word ≤ longest_word
    → l₀ ≡ holding [] → l₁ ≡ put l₀ word → l₂ ≡ put l₁ (blank ∷ decimal number) → l₃ ≡ put l₂ (blank ∷ decimal place)
    → l₄ ≡ put l₃ (blank ∷ decimal third) → r ≡ put l₄ (line_feed ∷ []) → r ≡ holding (line word number place third)
unfolding line
all_parts word number place third h e₀ e₁ e₂ e₃ e₄ e =
    let z : Line = holding [] in
    let n : List ℕ = blank ∷ decimal number in
    let p : List ℕ = blank ∷ decimal place in
    let t : List ℕ = blank ∷ decimal third in
    more z (word ++ n ++ p ++ t) (line_feed ∷ [])
    (more z (word ++ n ++ p) t (more z (word ++ n) p (more z word n (e₁ ∙ rw e₀) e₂) e₃) e₄)
    e
    ∙ put_empty (word ++ n ++ p ++ t ++ (line_feed ∷ [])) (line_fits word number place third h)

-- the bytes that hold a text begin with it
pub held : (text : List ℕ) → length text ≤ room → take (length text) (text ++ replicate (room - length text) 0) ≡ text
held text h = take_at text (replicate (room - length text) 0) (length text) refl
