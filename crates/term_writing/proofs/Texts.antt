-- The text of a term, taken apart as it is put: its head, then for each known link a sign, the link and the term there, then the bracket
-- that closes if there was any. Where the sign in front is told by whether the text has grown since the head, it is the right one.
-- Assumes nothing.
use mathlib.Core.Path.{◌≡◌, refl, sym, ap, ◌∙◌}
use mathlib.Core.Logic.{by_cases}
use mathlib.Core.Bool.{cond}
use mathlib.Core.List.{List, [], ◌∷◌, ◌++◌, append_assoc, append-nil}
use Prim.Native.Nat.{ℕ, suc, ◌+◌, ◌*◌, ◌/◌, ◌%◌, ◌<◌, ◌≤◌}
use native.Mathlib.Omega.{arith}
use native.Mathlib.Decide.{ℕ_discrete}
use lib.Dec.{eqb}
use lib.ListN.{length, length-append}
use borrow.Author.Tests.{eq-eqb, ne_eqb}
use Rattle.decimals.specs.Decimal.{digit, decimal}
use Rattle.decimals.proofs.Decimals.{one_digit}
use Rattle.meaning.specs.Form.{Form, unknown}
use Rattle.terms.specs.Term.{Term, head_tokens, term_tokens, argument_tokens, text_of, term_text, at_sign, colon, opening, closing, comma, equals, greater}
use Rattle.terms.specs.Term.Token.{sign}
use Rattle.writing.specs.Putting.{Room, Put}
use Rattle.terms.proofs.Numbers.{two_digits, two_at_most}
use Rattle.terms.proofs.Running.{text_append, bracketed_text}
use Rattle.writing.proofs.Putting.{put_begins, put_goes_on, put_ends, made_split}
use Rattle.term_writing.specs.Tree.{kind_written, listed, term_with, link_terms, term_from}
use Rattle.term_writing.specs.Visiting.{kind_text, head_text, link_text, further_text, arguments_text, argument_text, sign_before, closing_text}

pub room_first : (xs ys : List ℕ) (at : ℕ) (s : List ℕ) → Room (xs ++ ys) at s → Room xs at s
room_first xs ys at s r = omega (arith, length-append xs ys)

module _ {xs : List ℕ} {at mid : ℕ} {s t : List ℕ} (p : Put xs at s t mid) where
  -- two parts, one behind the other
  pub both_put : {ys u : List ℕ} {end : ℕ} → Put ys mid t u end → Put (xs ++ ys) at s u end
  both_put {ys} q = put_ends (put_goes_on (put_goes_on (put_begins at s refl) ys refl p) [] (sym (append-nil ys)) q) refl

  -- what comes next has room
  pub room_next : (ys : List ℕ) → Room (xs ++ ys) at s → Room ys mid t
  room_next ys r = omega (arith, p.size, p.ends, length-append xs ys)

  pub room_between : (ys zs : List ℕ) → Room (xs ++ (ys ++ zs)) at s → Room ys mid t
  room_between ys zs r = room_first ys zs mid t (room_next (ys ++ zs) r)

-- the same text, said otherwise
pub put_as : {xs ys : List ℕ} {at end : ℕ} {s t : List ℕ} → xs ≡ ys → Put xs at s t end → Put ys at s t end
put_as e p = rw e at p

-- a number of two digits
pub from_two_digits : (x : ℕ) → 10 ≤ x → x < 100 → decimal x ≡ digit (x / 10) ∷ digit (x % 10) ∷ []
from_two_digits x h g =
    let e : x ≡ 10 * (x / 10) + x % 10 = omega arith in
    ap decimal e ∙ two_digits (x / 10) (x % 10) (omega arith) (omega arith) (omega arith)

-- the signs of a number's digits
pub one_sign : {a : ℕ} (x : ℕ) → x < 10 → a ≡ digit x → a ∷ [] ≡ decimal x
one_sign x h e = ap (λ (d : ℕ). d ∷ []) e ∙ sym (one_digit x h)

pub two_signs : {a b : ℕ} (x : ℕ) → 10 ≤ x → x < 100 → a ≡ digit (x / 10) → b ≡ digit (x % 10) → a ∷ b ∷ [] ≡ decimal x
two_signs {a} x h g e f =
    ap (λ (d : ℕ). a ∷ d ∷ []) f ∙ ap (λ (d : ℕ). d ∷ digit (x % 10) ∷ []) e ∙ sym (from_two_digits x h g)

-- bytes that are left out where x is y are none or all
pub none_or_all : (x y : ℕ) (bytes : List ℕ) → length (cond (eqb x y) [] bytes) ≤ length bytes
none_or_all x y bytes = by_cases (ℕ_discrete x y) (λ e. rw (eq-eqb x y e) (omega arith)) (λ d. rw (ne_eqb x y d) (omega arith))

kind_short : (s : ℕ) → s < 100 → length (kind_text s) ≤ 3
kind_short s g = omega (arith, none_or_all s 1 (colon ∷ decimal s), two_at_most s g)

pub head_short : (j s : ℕ) → j < 100 → s < 100 → length (head_text j s) ≤ 6
head_short j s hj hs = omega (arith, length-append (decimal j) (kind_text s), two_at_most j hj, kind_short s hs)

pub link_short : (front l : ℕ) → l < 100 → length (link_text front l) ≤ 5
link_short front l h = omega (arith, length-append (decimal l) (equals ∷ greater ∷ []), two_at_most l h)

-- what ends the third of three texts stands behind all three
behind_three : (a b c d : List ℕ) {e : List ℕ} → e ≡ c ++ d → a ++ (b ++ e) ≡ (a ++ (b ++ c)) ++ d
behind_three a b c d h =
    ap (λ (x : List ℕ). a ++ (b ++ x)) h
    ∙ ap (λ (x : List ℕ). a ++ x) (sym (append_assoc b c d))
    ∙ sym (append_assoc a (b ++ c) d)

-- one argument more, behind another
further_more :
    (ps : List (ℕ × Term)) (l : ℕ) (t : Term) →
    further_text (ps ++ ((l, t) ∷ [])) ≡ further_text ps ++ (link_text comma l ++ term_text t)
unfolding further_text
further_more [] l t = ap (λ (x : List ℕ). link_text comma l ++ x) (append-nil (term_text t))
further_more (p ∷ ps) l t =
    behind_three (link_text comma p.0) (term_text p.1) (further_text ps) (link_text comma l ++ term_text t) (further_more ps l t)

-- before one argument more goes the bracket that opens where the text has not grown, and a comma where it has; the argument's text stands
-- behind that of the others
module _ (from at : ℕ) where
  argument_behind :
      (ps : List (ℕ × Term)) → at ≡ from + length (arguments_text ps) → (l : ℕ) (t : Term) →
      arguments_text (ps ++ ((l, t) ∷ [])) ≡ arguments_text ps ++ (link_text (sign_before from at) l ++ term_text t)
  unfolding arguments_text further_text
  argument_behind [] e l t = rw (eq-eqb at from (omega (arith, e))) (ap (λ (x : List ℕ). link_text opening l ++ x) (append-nil (term_text t)))
  argument_behind (p ∷ ps) e l t =
      rw (ne_eqb at from (λ q. omega (arith, e, q)))
      (behind_three (link_text opening p.0) (term_text p.1) (further_text ps) (link_text comma l ++ term_text t) (further_more ps l t))

head_text_lem : (j s : ℕ) → text_of (head_tokens j (kind_written s)) ≡ head_text j s
unfolding text_of
head_text_lem j s =
    by_cases (ℕ_discrete s 1)
    (λ e. rw (eq-eqb s 1 e))
    (λ d. rw (ne_eqb s 1 d) (ap (λ (x : List ℕ). at_sign ∷ (decimal j ++ (colon ∷ x))) (append-nil (decimal s))))

-- a sign, and arguments behind it
listed_text :
    (front l : ℕ) (t : Term) (others : List (ℕ × Term)) →
    front ∷ text_of (argument_tokens (listed l t others)) ≡ link_text front l ++ (term_text t ++ further_text others)
unfolding text_of argument_tokens further_text
listed_text front l t [] =
    ap (λ (x : List ℕ). front ∷ x)
    (sym (append_assoc (decimal l) (equals ∷ greater ∷ []) (term_text t))
    ∙ ap (λ (x : List ℕ). (decimal l ++ (equals ∷ greater ∷ [])) ++ x) (sym (append-nil (term_text t))))
listed_text front l t (next ∷ others) =
    ap (λ (x : List ℕ). front ∷ x)
    (ap (λ (x : List ℕ). decimal l ++ (equals ∷ greater ∷ x))
    (text_append (term_tokens t) (sign comma ∷ argument_tokens (listed next.0 next.1 others))
    ∙ ap (λ (x : List ℕ). term_text t ++ x) (listed_text comma next.0 next.1 others))
    ∙ sym (append_assoc (decimal l) (equals ∷ greater ∷ []) (term_text t ++ further_text (next ∷ others))))

-- a whole term
term_text_lem :
    (j s : ℕ) (ps : List (ℕ × Term)) (from at : ℕ) → at ≡ from + length (arguments_text ps) →
    head_text j s ++ (arguments_text ps ++ closing_text from at) ≡ term_text (term_with j (kind_written s) ps)
unfolding term_tokens arguments_text
term_text_lem j s [] from at e = rw (eq-eqb at from (omega (arith, e))) (append-nil (head_text j s) ∙ sym (head_text_lem j s))
term_text_lem j s (p ∷ ps) from at e =
    let args = listed p.0 p.1 ps in
    rw (ne_eqb at from (λ q. omega (arith, e, q)))
    (sym
    (bracketed_text j (kind_written s) args
    ∙ ap (λ (x : List ℕ). x ++ (opening ∷ (text_of (argument_tokens args) ++ (closing ∷ [])))) (head_text_lem j s)
    ∙ ap (λ (x : List ℕ). head_text j s ++ (x ++ (closing ∷ []))) (listed_text opening p.0 p.1 ps)))

module _ (S : Form) (term_of : ℕ → Term) (j : ℕ) where
  terms_split : (l a b : ℕ) → link_terms S term_of j l (a + b) ≡ link_terms S term_of j l a ++ link_terms S term_of j (l + a) b
  unfolding link_terms
  terms_split l a b =
      made_split (link_terms S term_of j) (λ i. eqb (S.link j i) unknown) (λ i. (i, term_of (S.link j i))) (λ i. refl) (λ i count. refl) l a b

  -- no link yet; and one link more, which leads to c
  pub no_arguments : [] ≡ arguments_text (link_terms S term_of j 0 0)
  unfolding link_terms arguments_text
  no_arguments = refl

  pub arguments_more :
      (k from at : ℕ) {c : ℕ} → c ≡ S.link j k → at ≡ from + length (arguments_text (link_terms S term_of j 0 k)) →
      arguments_text (link_terms S term_of j 0 k) ++ argument_text (sign_before from at) k c (term_of c)
      ≡ arguments_text (link_terms S term_of j 0 (k + 1))
  unfolding link_terms
  arguments_more k from at {c} q e =
      let before = link_terms S term_of j 0 k in
      let k_is : 0 + k ≡ k = omega arith in
      let split : link_terms S term_of j 0 (k + 1) ≡ before ++ cond (eqb c unknown) [] ((k, term_of c) ∷ []) =
      terms_split 0 k 1 ∙ ap (λ (i : ℕ). before ++ link_terms S term_of j i 1) k_is
      ∙ ap (λ (i : ℕ). before ++ cond (eqb i unknown) [] ((k, term_of i) ∷ [])) (sym q) in
      by_cases (ℕ_discrete c unknown)
      (λ h. rw (split, eq-eqb c unknown h) (append-nil (arguments_text before) ∙ ap arguments_text (sym (append-nil before))))
      (λ d. rw (split, ne_eqb c unknown d) (sym (argument_behind from at before e k (term_of c))))

-- the text of a joint's term, from those of its arguments
pub joint_text :
    (S : Form) (below j from at : ℕ) →
    at ≡ from + length (arguments_text (link_terms S (λ c. term_from S below c) j 0 16)) →
    head_text j (S.kind j) ++ (arguments_text (link_terms S (λ c. term_from S below c) j 0 16) ++ closing_text from at)
    ≡ term_text (term_from S (suc below) j)
unfolding term_from
joint_text S below j from at e = term_text_lem j (S.kind j) (link_terms S (λ c. term_from S below c) j 0 16) from at e
