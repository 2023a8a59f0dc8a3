-- A text has one reading: a number ends at the first byte that is no digit, and the byte behind a number, a head or a term says how the text
-- goes on. So equal texts have equal first numbers and equal rests, then equal terms and arguments.
-- Assumes nothing.
use mathlib.Core.Path.{◌≡◌, refl, sym, ◌∙◌, ap, ap₂, subst}
use mathlib.Core.Logic.{◌≢◌}
use mathlib.Core.Bool.{true, false, cond}
use mathlib.Core.List.{List, [], ◌∷◌, ◌++◌, append_assoc, append-nil, head-eq_of_cons-eq as first_same, tail-eq_of_cons-eq as rest_same}
use Prim.Native.Nat.{ℕ, zero, suc, ◌<◌}
use native.Mathlib.Omega.{arith}
use Rattle.decimals.specs.Decimal.{decimal}
use Rattle.decimals.proofs.Decimals.{value, reads_back}
use Rattle.terms.specs.Term.{Written, Term, Arguments, at_sign, colon, opening, closing, comma}
use Rattle.terms.specs.Term.{equals, greater, text_of, term_text, term_tokens, argument_tokens, head_tokens, kind_tokens}
use Rattle.terms.specs.Term.Written.{unwritten, written}
use Rattle.terms.specs.Term.Term.{bare, bracketed}
use Rattle.terms.specs.Term.Arguments.{one, more}
use Rattle.terms.specs.Language.{Short, KindShort, Fits, ArgumentsFit, Reading, NoTerm}
use Rattle.terms.specs.Machine.{is_digit}
use Rattle.terms.proofs.Numbers.{digits_of}
use Rattle.terms.proofs.Numbers.Digits.{single, double, triple}
use Rattle.terms.proofs.Running.{digit_is, bracketed_text, more_text}

-- what a text begins with, where it begins with a byte
abbrev Starts : (ℕ → Type 0) → List ℕ → Type 0
Starts P [] = Unit {0}
Starts P (b ∷ rest) = P b

starts_weaker : {P Q : ℕ → Type 0} → ((b : ℕ) → P b → Q b) → (x : List ℕ) → Starts P x → Starts Q x
starts_weaker f [] h = tt
starts_weaker f (b ∷ x) h = f b h

starts_with : (P : ℕ → Type 0) {x rest : List ℕ} {b : ℕ} → Starts P x → x ≡ b ∷ rest → P b
starts_with P h e = subst (Starts P) e h

abbrev NoDigit : ℕ → Type 0
NoDigit b = is_digit b ≡ false

abbrev BehindHead : ℕ → Type 0
BehindHead b = NoDigit b × (b ≢ colon)

abbrev BehindTerm : ℕ → Type 0
BehindTerm b = NoDigit b × (b ≢ colon) × (b ≢ opening)

-- a list cut at its first byte that is no digit
abbrev front : List ℕ → List ℕ
front [] = []
front (b ∷ bs) = cond (is_digit b) (b ∷ front bs) []

abbrev back : List ℕ → List ℕ
back [] = []
back (b ∷ bs) = cond (is_digit b) (back bs) (b ∷ bs)

abbrev AllDigits : List ℕ → Type 0
AllDigits [] = Unit {0}
AllDigits (b ∷ bs) = (is_digit b ≡ true) × AllDigits bs

front_cut : (ds rest : List ℕ) → AllDigits ds → Starts NoDigit rest → front (ds ++ rest) ≡ ds
front_cut [] [] a s = refl
front_cut [] (b ∷ rest) a s = rw s
front_cut (d ∷ ds) rest a s = rw (a.0, front_cut ds rest a.1 s)

back_cut : (ds rest : List ℕ) → AllDigits ds → Starts NoDigit rest → back (ds ++ rest) ≡ rest
back_cut [] [] a s = refl
back_cut [] (b ∷ rest) a s = rw s
back_cut (d ∷ ds) rest a s = rw a.0 (back_cut ds rest a.1 s)

decimal_digits : (x : ℕ) → x < 1000 → AllDigits (decimal x)
decimal_digits x h =
    elim (digits_of x h) [
      | single g e ↦ rw e (digit_is x g, tt)
      | double a b p g f q e ↦ rw e (digit_is a g, (digit_is b f, tt))
      | triple a b c p g f i q e ↦ rw e (digit_is a g, (digit_is b f, (digit_is c i, tt)))
    ]

-- a number and what comes behind it, and so for heads and terms
record NumberThen (x : ℕ) (rest : List ℕ) : Type 0 where
  short : Short x
  ends : Starts NoDigit rest

record HeadThen (j : ℕ) (s : Written) (rest : List ℕ) : Type 0 where
  short : Short j
  kind_short : KindShort s
  ends : Starts BehindHead rest

record TermThen (t : Term) (rest : List ℕ) : Type 0 where
  levels : ℕ
  fits : Fits t levels
  ends : Starts BehindTerm rest

number_same : {x y : ℕ} {r s : List ℕ} → NumberThen x r → NumberThen y s → decimal x ++ r ≡ decimal y ++ s → (x ≡ y) × (r ≡ s)
number_same {x} {y} {r} {s} a b e =
    let all = decimal_digits x a.short in
    let all_too = decimal_digits y b.short in
    let cut = sym (front_cut (decimal x) r all a.ends) ∙ ap front e ∙ front_cut (decimal y) s all_too b.ends in (
      sym (reads_back x (omega arith)) ∙ ap value cut ∙ reads_back y (omega arith),
      sym (back_cut (decimal x) r all a.ends) ∙ ap back e ∙ back_cut (decimal y) s all_too b.ends,
    )

-- the text of a head and of arguments, in front of what comes behind
head_text_lem : (j : ℕ) (s : Written) (rest : List ℕ) → text_of (head_tokens j s) ++ rest ≡ at_sign ∷ (decimal j ++ (text_of (kind_tokens s) ++ rest))
unfolding text_of
head_text_lem j s rest = ap (λ (x : List ℕ). at_sign ∷ x) (append_assoc (decimal j) (text_of (kind_tokens s)) rest)

kind_text_lem : (s : ℕ) (rest : List ℕ) → text_of (kind_tokens (written s)) ++ rest ≡ colon ∷ (decimal s ++ rest)
unfolding text_of
kind_text_lem s rest = ap (λ (x : List ℕ). colon ∷ (x ++ rest)) (append-nil (decimal s))

bare_text : (j : ℕ) (s : Written) (rest : List ℕ) → term_text (bare j s) ++ rest ≡ text_of (head_tokens j s) ++ rest
unfolding term_tokens
bare_text j s rest = refl

arguments_text_lem : (j : ℕ) (s : Written) (args : Arguments) (rest : List ℕ) →
    term_text (bracketed j s args) ++ rest ≡ text_of (head_tokens j s) ++ opening ∷ (text_of (argument_tokens args) ++ closing ∷ rest)
arguments_text_lem j s args rest =
    let inner : List ℕ = text_of (argument_tokens args) in
    ap (λ (x : List ℕ). x ++ rest) (bracketed_text j s args)
    ∙ append_assoc (text_of (head_tokens j s)) (opening ∷ (inner ++ closing ∷ [])) rest
    ∙ ap (λ (x : List ℕ). text_of (head_tokens j s) ++ opening ∷ x) (append_assoc inner (closing ∷ []) rest)

abbrev argument_text : ℕ → Term → List ℕ → List ℕ
argument_text l t rest = decimal l ++ equals ∷ greater ∷ (term_text t ++ rest)

last_text : (l : ℕ) (t : Term) (rest : List ℕ) → text_of (argument_tokens (one l t)) ++ rest ≡ argument_text l t rest
unfolding text_of term_tokens
last_text l t rest = append_assoc (decimal l) (equals ∷ greater ∷ term_text t) rest

next_text : (l : ℕ) (t : Term) (args : Arguments) (rest : List ℕ) →
    text_of (argument_tokens (more l t args)) ++ rest ≡ argument_text l t (comma ∷ (text_of (argument_tokens args) ++ rest))
unfolding text_of
next_text l t args rest =
    more_text l t args rest
    ∙ append_assoc (decimal l) (equals ∷ greater ∷ term_text t) (comma ∷ (text_of (argument_tokens args) ++ rest))

-- a head
kind_starts : (s : Written) (x : List ℕ) → Starts BehindHead x → Starts NoDigit (text_of (kind_tokens s) ++ x)
unfolding text_of
kind_starts unwritten x h = starts_weaker (λ b g. g.0) x h
kind_starts (written s) x h = refl

kind_then : (s : ℕ) (x : List ℕ) → Short s → Starts BehindHead x → NumberThen s x
kind_then s x a h = record { short = a; ends = starts_weaker (λ b g. g.0) x h }

kind_same : (s u : Written) (x y : List ℕ) → KindShort s → KindShort u → Starts BehindHead x → Starts BehindHead y →
    text_of (kind_tokens s) ++ x ≡ text_of (kind_tokens u) ++ y → (s ≡ u) × (x ≡ y)
unfolding text_of
kind_same unwritten unwritten x y a b h g e = (refl, e)
kind_same unwritten (written u) x y a b h g e = absurd ((starts_with BehindHead h e).1 refl)
kind_same (written s) unwritten x y a b h g e = absurd ((starts_with BehindHead g (sym e)).1 refl)
kind_same (written s) (written u) x y a b h g e =
    let same = number_same (kind_then s x a h) (kind_then u y b g) (rest_same (sym (kind_text_lem s x) ∙ e ∙ kind_text_lem u y)) in
    (ap written same.0, same.1)

joint_then : {j : ℕ} {s : Written} {x : List ℕ} → HeadThen j s x → NumberThen j (text_of (kind_tokens s) ++ x)
joint_then {j} {s} {x} a = record { short = a.short; ends = kind_starts s x a.ends }

head_same : {j k : ℕ} {s u : Written} {x y : List ℕ} → HeadThen j s x → HeadThen k u y →
    text_of (head_tokens j s) ++ x ≡ text_of (head_tokens k u) ++ y → (j ≡ k) × (s ≡ u) × (x ≡ y)
head_same {j} {k} {s} {u} {x} {y} a b e =
    let joints = number_same (joint_then a) (joint_then b) (rest_same (sym (head_text_lem j s x) ∙ e ∙ head_text_lem k u y)) in
    let kinds = kind_same s u x y a.kind_short b.kind_short a.ends b.ends joints.1 in
    (joints.0, kinds.0, kinds.1)

-- the heads of terms
bare_fits : (j : ℕ) (s : Written) (levels : ℕ) → Fits (bare j s) levels → Short j × KindShort s
bare_fits j s zero f = absurd f
bare_fits j s (suc levels) f = f

bracketed_fits : (j : ℕ) (s : Written) (args : Arguments) (levels : ℕ) → Fits (bracketed j s args) levels →
    (inner : ℕ) × Short j × KindShort s × ArgumentsFit args inner
bracketed_fits j s args zero f = absurd f
bracketed_fits j s args (suc levels) f = (levels, f.0, f.1, f.2)

bare_then : {j : ℕ} {s : Written} {x : List ℕ} → TermThen (bare j s) x → HeadThen j s x
bare_then {j} {s} {x} a =
    let fit = bare_fits j s a.levels a.fits in
    record { short = fit.0; kind_short = fit.1; ends = starts_weaker (λ b g. (g.0, g.1)) x a.ends }

bracketed_then : {j : ℕ} {s : Written} {args : Arguments} {x : List ℕ} (rest : List ℕ) → TermThen (bracketed j s args) x →
    HeadThen j s (opening ∷ rest)
bracketed_then {j} {s} {args} rest a =
    let fit = bracketed_fits j s args a.levels a.fits in
    record { short = fit.1; kind_short = fit.2; ends = (refl, omega arith) }

link_then : (l : ℕ) (t : Term) (rest : List ℕ) → Short l → NumberThen l (equals ∷ greater ∷ (term_text t ++ rest))
link_then l t rest h = record { short = h; ends = refl }

argument_same : (l m : ℕ) (t u : Term) (x y : List ℕ) → Short l → Short m → argument_text l t x ≡ argument_text m u y →
    (l ≡ m) × (term_text t ++ x ≡ term_text u ++ y)
argument_same l m t u x y h g e =
    let same = number_same (link_then l t x h) (link_then m u y g) e in
    (same.0, rest_same (rest_same same.1))

-- an argument in front of the sign behind it
closes : (t : Term) (levels : ℕ) (rest : List ℕ) → Fits t levels → TermThen t (closing ∷ rest)
closes t levels rest f = record { levels = levels; fits = f; ends = (refl, omega arith, omega arith) }

goes_on : (t : Term) (levels : ℕ) (rest : List ℕ) → Fits t levels → TermThen t (comma ∷ rest)
goes_on t levels rest f = record { levels = levels; fits = f; ends = (refl, omega arith, omega arith) }

-- arguments that end are none that go on
closing_comma : (x y : List ℕ) → closing ∷ x ≡ comma ∷ y → ⊥
closing_comma x y e = omega (arith, first_same e)

-- what comes behind starts with no byte with which a term or arguments go on, so it is told apart from them
mutual
  term_same : (t u : Term) (x y : List ℕ) → TermThen t x → TermThen u y → term_text t ++ x ≡ term_text u ++ y → (t ≡ u) × (x ≡ y)
  term_same (bare j s) (bare k v) x y a b e =
      let heads = head_same (bare_then a) (bare_then b) (sym (bare_text j s x) ∙ e ∙ bare_text k v y) in
      (ap₂ bare heads.0 heads.1, heads.2)
  term_same (bare j s) (bracketed k v args_too) x y a b e =
      let inner : List ℕ = text_of (argument_tokens args_too) ++ closing ∷ y in
      let heads = head_same (bare_then a) (bracketed_then inner b) (sym (bare_text j s x) ∙ e ∙ arguments_text_lem k v args_too y) in
      absurd ((starts_with BehindTerm a.ends heads.2).2 refl)
  term_same (bracketed j s args) (bare k v) x y a b e =
      let inner : List ℕ = text_of (argument_tokens args) ++ closing ∷ x in
      let heads = head_same (bracketed_then inner a) (bare_then b) (sym (arguments_text_lem j s args x) ∙ e ∙ bare_text k v y) in
      absurd ((starts_with BehindTerm b.ends (sym heads.2)).2 refl)
  term_same (bracketed j s args) (bracketed k v args_too) x y a b e =
      let inner : List ℕ = text_of (argument_tokens args) ++ closing ∷ x in
      let inner_too : List ℕ = text_of (argument_tokens args_too) ++ closing ∷ y in
      let heads = head_same (bracketed_then inner a) (bracketed_then inner_too b) (sym (arguments_text_lem j s args x) ∙ e ∙ arguments_text_lem k v args_too y) in
      let fit = bracketed_fits j s args a.levels a.fits in
      let fit_too = bracketed_fits k v args_too b.levels b.fits in
      let same = arguments_same args args_too fit.0 fit_too.0 x y fit.3 fit_too.3 (rest_same heads.2) in
      (λ i. bracketed (heads.0 i) (heads.1 i) (same.0 i), same.1)

  arguments_same : (args args_too : Arguments) (d e : ℕ) (x y : List ℕ) → ArgumentsFit args d → ArgumentsFit args_too e →
      text_of (argument_tokens args) ++ closing ∷ x ≡ text_of (argument_tokens args_too) ++ closing ∷ y → (args ≡ args_too) × (x ≡ y)
  arguments_same (one l t) (one m u) d e x y f g h =
      let texts = sym (last_text l t (closing ∷ x)) ∙ h ∙ last_text m u (closing ∷ y) in
      let links = argument_same l m t u (closing ∷ x) (closing ∷ y) f.0 g.0 texts in
      let terms = term_same t u (closing ∷ x) (closing ∷ y) (closes t d x f.1) (closes u e y g.1) links.1 in
      (ap₂ one links.0 terms.0, rest_same terms.1)
  arguments_same (one l t) (more m u args_too) d e x y f g h =
      let others : List ℕ = text_of (argument_tokens args_too) ++ closing ∷ y in
      let texts = sym (last_text l t (closing ∷ x)) ∙ h ∙ next_text m u args_too (closing ∷ y) in
      let links = argument_same l m t u (closing ∷ x) (comma ∷ others) f.0 g.0 texts in
      let terms = term_same t u (closing ∷ x) (comma ∷ others) (closes t d x f.1) (goes_on u e others g.1) links.1 in
      absurd (closing_comma x others terms.1)
  arguments_same (more l t args) (one m u) d e x y f g h =
      let others : List ℕ = text_of (argument_tokens args) ++ closing ∷ x in
      let texts = sym (next_text l t args (closing ∷ x)) ∙ h ∙ last_text m u (closing ∷ y) in
      let links = argument_same l m t u (comma ∷ others) (closing ∷ y) f.0 g.0 texts in
      let terms = term_same t u (comma ∷ others) (closing ∷ y) (goes_on t d others f.1) (closes u e y g.1) links.1 in
      absurd (closing_comma y others (sym terms.1))
  arguments_same (more l t args) (more m u args_too) d e x y f g h =
      let others : List ℕ = text_of (argument_tokens args) ++ closing ∷ x in
      let others_too : List ℕ = text_of (argument_tokens args_too) ++ closing ∷ y in
      let texts = sym (next_text l t args (closing ∷ x)) ∙ h ∙ next_text m u args_too (closing ∷ y) in
      let links = argument_same l m t u (comma ∷ others) (comma ∷ others_too) f.0 g.0 texts in
      let terms = term_same t u (comma ∷ others) (comma ∷ others_too) (goes_on t d others f.1) (goes_on u e others_too g.1) links.1 in
      let same = arguments_same args args_too d e x y f.2 g.2 (rest_same terms.1) in
      (λ i. more (links.0 i) (terms.0 i) (same.0 i), same.1)

pub one_reading : (text : List ℕ) (t u : Term) → Reading text t → Reading text u → t ≡ u
one_reading text t u r q =
    let whole : (v : Term) → Reading text v → TermThen v [] = λ v p. record { levels = 16; fits = p.fits; ends = tt } in
    (term_same t u [] [] (whole t r) (whole u q) (ap (λ (x : List ℕ). x ++ []) (sym r.spelled ∙ q.spelled))).0

-- a text outside the language has one place where it stops
pub no_term_one : (text : List ℕ) (p q : ℕ) → NoTerm text p → NoTerm text q → p ≡ q
no_term_one text p q a b = omega (arith, a.longest q b.inside b.begun, b.longest p a.inside a.begun)
