-- A script is read letter by letter: what is read and answered so far, and what is left. And what one read says of the next letter.
-- Assumes nothing.
use Rattle.std.proofs.Common.{◌≡◌, ◌≢◌, refl, sym, ◌∙◌, ℕ, zero, suc, ◌+◌, ◌-◌, ◌≤◌, ◌<◌, List, [], ◌∷◌, ◌++◌, length, take, get_or, arith, append_assoc, append-nil, None, Some}
use Rattle.std.specs.Prelude.{Option, IfSome}
use Rattle.std.specs.List.{FoldsTo}
use Rattle.std.specs.Io.KnownBytes.{Consumes, IsAtEnd}
use Rattle.std.proofs.lemmas.Fn.{FoldsTo-push}
use mathlib.Core.Logic.{by_cases}
use native.Mathlib.Decide.{ℕ_discrete}
use borrow.Author.Tests.{eq-eqb, ne_eqb}
use Rattle.scripts.specs.declared.Script.{Script}
use Rattle.scripts.specs.Scripts.{begun_script, letters_of, NextLetter, Turn}

none_there : (n : ℕ) (xs : List ℕ) → letters_of 1 xs ≡ [] → letters_of n xs ≡ []
unfolding letters_of
none_there zero xs e = refl
none_there (suc n) [] e = refl
none_there (suc n) (c ∷ xs) e =
    by_cases (ℕ_discrete c 0)
    (λ q. rw (eq-eqb c 0 q))
    (λ d. absurd (cc (rw (ne_eqb c 0 d) at e)))

one_there : {n m c : ℕ} (xs : List ℕ) → n ≡ suc m → c ≢ 0 → letters_of n (c ∷ xs) ≡ c ∷ letters_of m xs
unfolding letters_of
one_there {n} {m} {c} xs e d = rw (e, ne_eqb c 0 d)

none_at_all : (n : ℕ) (xs : List ℕ) → n ≡ 0 → letters_of n xs ≡ []
unfolding letters_of
none_at_all n xs e = rw e

at_zero : (c : ℕ) (xs : List ℕ) → c ≡ 0 → letters_of 1 (c ∷ xs) ≡ []
unfolding letters_of
at_zero c xs e = rw (eq-eqb c 0 e)

at_end : letters_of 1 [] ≡ []
unfolding letters_of
at_end = refl

-- a read of at most one byte that gave none, or a zero byte
pub no_letter :
    (got : ℕ) (buf : List ℕ) (old new : Option (List ℕ)) → length buf ≡ 1 → got ≤ 1 → Consumes old new (take got buf) → (got ≡ 0 → IsAtEnd new)
    → (got ≢ 0 → get_or buf 0 0 ≡ 0) → NextLetter None old new
no_letter got buf None new w h t e z = tt
no_letter got buf (Some xs) None w h t e z = absurd t
no_letter zero buf (Some xs) (Some ys) w h t e z = rw (t, e refl) at_end
no_letter (suc zero) [] (Some xs) (Some ys) w h t e z = absurd (omega arith)
no_letter (suc zero) (a ∷ buf) (Some xs) (Some ys) w h t e z = rw t (at_zero a ys (z (λ q. omega arith)))
no_letter (suc (suc got)) buf (Some xs) (Some ys) w h t e z = absurd (omega arith)

-- the letters of a script that are left, where there are more to read than `turns`
module _ {A : Type 0} (answers : A → Script → A → Type 0) (first : A) (old : Option (List ℕ)) where
  -- behind so many turns: what they read and answered, and the letters that are left
  pub record SoFar (turns : ℕ) (script : Script) (now : A) (new : Option (List ℕ)) : Type 0 where
    pub letters : List ℕ
    pub ran : FoldsTo {P = Script × A} (Turn answers) (begun_script, first) letters (script, now)
    pub left : IfSome old (λ xs. (ys : List ℕ) × (new ≡ Some ys) × (letters_of 65536 xs ≡ letters ++ letters_of (65536 - turns) ys))

  -- all letters are read, and all calls answered
  abbrev pub Whole : Type 0
  Whole =
      (letters : List ℕ) × IfSome old (λ xs. letters ≡ letters_of 65536 xs) × (last : Script × A)
      × FoldsTo {P = Script × A} (Turn answers) (begun_script, first) letters last

nothing_yet : {A : Type 0} (answers : A → Script → A → Type 0) (first : A) (old : Option (List ℕ)) → IfSome old (λ xs. (ys : List ℕ) × (old ≡ Some ys) × (letters_of 65536 xs ≡ letters_of 65536 ys))
nothing_yet answers first None = tt
nothing_yet answers first (Some xs) = (xs, refl, refl)

pub at_first : {A : Type 0} (answers : A → Script → A → Type 0) (first : A) (old : Option (List ℕ)) {script : Script} → script ≡ begun_script → SoFar answers first old 0 script first old
at_first answers first old e = record { letters = []; ran = rw e refl; left = nothing_yet answers first old }

one_less :
    (turns c : ℕ) (letters : List ℕ) (old new newer : Option (List ℕ)) → turns < 65536
    → IfSome old (λ xs. (ys : List ℕ) × (new ≡ Some ys) × (letters_of 65536 xs ≡ letters ++ letters_of (65536 - turns) ys)) → NextLetter (Some c) new newer
    → IfSome old (λ xs. (ys : List ℕ) × (newer ≡ Some ys) × (letters_of 65536 xs ≡ (letters ++ (c ∷ [])) ++ letters_of (65536 - (turns + 1)) ys))
one_less turns c letters None new newer h l n = tt
one_less turns c letters (Some xs) None newer h l n = absurd (cc l.1)
one_less turns c letters (Some xs) (Some ys) None h l n = absurd n.1
one_less turns c letters (Some xs) (Some ys) (Some zs) h (us, e, q) (d, t) =
    let more : 65536 - turns ≡ suc (65536 - (turns + 1)) = omega arith in
    let same : us ≡ ys = cc in
    (zs, refl, q ∙ rw (same, t, one_there zs more d, append_assoc))

pub one_more :
    {A : Type 0} (answers : A → Script → A → Type 0) (first : A) (old : Option (List ℕ)) {turns c : ℕ} {script next : Script} {now behind : A}
    {new newer : Option (List ℕ)} → turns < 65536 → SoFar answers first old turns script now new → NextLetter (Some c) new newer
    → Turn answers (script, now) c (next, behind) → SoFar answers first old (turns + 1) next behind newer
one_more {A} answers first old {turns} {c} {script} {next} {now} {behind} {new} {newer} h s n t =
    record {
      letters = s.letters ++ (c ∷ []);
      ran = FoldsTo-push {P = Script × A} (Turn answers) (begun_script, first) s.letters (script, now) c (next, behind) s.ran t;
      left = one_less turns c s.letters old new newer h s.left n;
    }

none_left :
    (turns : ℕ) (letters : List ℕ) (old new newer : Option (List ℕ))
    → IfSome old (λ xs. (ys : List ℕ) × (new ≡ Some ys) × (letters_of 65536 xs ≡ letters ++ letters_of (65536 - turns) ys)) → NextLetter None new newer
    → IfSome old (λ xs. letters ≡ letters_of 65536 xs)
none_left turns letters None new newer l n = tt
none_left turns letters (Some xs) None newer l n = absurd (cc l.1)
none_left turns letters (Some xs) (Some ys) newer (us, e, q) n =
    let same : us ≡ ys = cc in
    sym (q ∙ rw (same, none_there (65536 - turns) ys n, append-nil))

pub at_last :
    {A : Type 0} (answers : A → Script → A → Type 0) (first : A) (old : Option (List ℕ)) {turns : ℕ} {script : Script} {now : A} {new : Option (List ℕ)}
    (newer : Option (List ℕ)) → SoFar answers first old turns script now new → NextLetter None new newer → Whole answers first old
at_last answers first old {turns} {script} {now} {new} newer s n = (s.letters, none_left turns s.letters old new newer s.left n, (script, now), s.ran)

no_more :
    (turns : ℕ) (letters : List ℕ) (old new : Option (List ℕ)) → 65536 ≤ turns
    → IfSome old (λ xs. (ys : List ℕ) × (new ≡ Some ys) × (letters_of 65536 xs ≡ letters ++ letters_of (65536 - turns) ys))
    → IfSome old (λ xs. letters ≡ letters_of 65536 xs)
no_more turns letters None new h l = tt
no_more turns letters (Some xs) new h (us, e, q) =
    let none : 65536 - turns ≡ 0 = omega arith in
    sym (q ∙ rw (none_at_all (65536 - turns) us none, append-nil))

pub too_many :
    {A : Type 0} (answers : A → Script → A → Type 0) (first : A) (old : Option (List ℕ)) {turns : ℕ} {script : Script} {now : A} {new : Option (List ℕ)}
    → 65536 ≤ turns → SoFar answers first old turns script now new → Whole answers first old
too_many answers first old {turns} {script} {now} {new} h s = (s.letters, no_more turns s.letters old new h s.left, (script, now), s.ran)
