-- The text of a term is short where its facts are few: a link's argument has at most 16 bytes beside what its term says further, and says
-- one fact at least.
-- Assumes nothing.
use mathlib.Core.Path.{◌≡◌, ap, ◌∙◌}
use mathlib.Core.List.{List, [], ◌∷◌, ◌++◌}
use Prim.Native.Nat.{ℕ, zero, suc, ◌+◌, ◌*◌, ◌<◌, ◌≤◌}
use native.Mathlib.Omega.{arith}
use lib.ListN.{length, length-append}
use Rattle.decimals.specs.Decimal.{decimal}
use Rattle.terms.specs.Term.{Written, Term, Arguments, Token, text_of, term_text, term_tokens, argument_tokens, head_tokens, kind_tokens, link_tokens}
use Rattle.terms.specs.Term.{opening, closing, comma, equals, greater}
use Rattle.terms.specs.Term.Token.{sign}
use Rattle.terms.specs.Term.Written.{unwritten, written}
use Rattle.terms.specs.Term.Term.{bare, bracketed}
use Rattle.terms.specs.Term.Arguments.{one, more}
use Rattle.terms.specs.Language.{KindShort, Fits, ArgumentsFit}
use Rattle.terms.specs.Facts.{kind_facts, term_facts, argument_facts}
use Rattle.terms.proofs.Numbers.{three_at_most}
use Rattle.terms.proofs.Running.{text_append, bracketed_text}

appended : (x y : List Token) → length (text_of (x ++ y)) ≡ length (text_of x) + length (text_of y)
appended x y = ap length (text_append x y) ∙ length-append (text_of x) (text_of y)

kind_length : (s : Written) → KindShort s → length (text_of (kind_tokens s)) ≤ 4
unfolding text_of
kind_length unwritten h = omega arith
kind_length (written s) h = omega (arith, length-append (decimal s) [], three_at_most s h)

head_length : (j : ℕ) (s : Written) → j < 1000 → KindShort s → length (text_of (head_tokens j s)) ≤ 8
unfolding text_of
head_length j s h k = omega (arith, length-append (decimal j) (text_of (kind_tokens s)), three_at_most j h, kind_length s k)

link_length : (l : ℕ) → l < 1000 → length (text_of (link_tokens l)) ≤ 5
unfolding text_of
link_length l h = omega (arith, length-append (decimal l) (equals ∷ greater ∷ []), three_at_most l h)

bracketed_length : (j : ℕ) (s : Written) (args : Arguments) →
    length (term_text (bracketed j s args)) ≡ length (text_of (head_tokens j s)) + length (text_of (argument_tokens args)) + 2
bracketed_length j s args =
    let inner : List ℕ = text_of (argument_tokens args) in
    ap length (bracketed_text j s args)
    ∙ omega (arith, length-append (text_of (head_tokens j s)) (opening ∷ (inner ++ closing ∷ [])), length-append inner (closing ∷ []))

one_length : (l : ℕ) (t : Term) → length (text_of (argument_tokens (one l t))) ≡ length (text_of (link_tokens l)) + length (term_text t)
unfolding term_tokens
one_length l t = appended (link_tokens l) (term_tokens t)

more_length : (l : ℕ) (t : Term) (args : Arguments) →
    length (text_of (argument_tokens (more l t args)))
    ≡ length (text_of (link_tokens l)) + length (term_text t) + 1 + length (text_of (argument_tokens args))
unfolding text_of term_tokens
more_length l t args =
    omega (arith, appended (link_tokens l ++ term_tokens t) (sign comma ∷ argument_tokens args), appended (link_tokens l) (term_tokens t))

mutual
  unfolding term_tokens term_facts

  pub text_length : (t : Term) (depth : ℕ) → Fits t depth → length (term_text t) ≤ 10 + 16 * length (term_facts t)
  text_length (bare j s) zero f = absurd f
  text_length (bare j s) (suc depth) f = omega (arith, head_length j s f.0 f.1)
  text_length (bracketed j s args) zero f = absurd f
  text_length (bracketed j s args) (suc depth) f =
      omega (
        arith,
        bracketed_length j s args,
        head_length j s f.0 f.1,
        length-append (kind_facts j s) (argument_facts args j),
        arguments_length args j depth f.2,
      )

  arguments_length : (args : Arguments) (j depth : ℕ) → ArgumentsFit args depth →
      length (text_of (argument_tokens args)) ≤ 16 * length (argument_facts args j)
  arguments_length (one l t) j depth f = omega (arith, one_length l t, link_length l f.0, text_length t depth f.1)
  arguments_length (more l t args) j depth f =
      omega (
        arith,
        more_length l t args,
        link_length l f.0,
        text_length t depth f.1,
        length-append (term_facts t) (argument_facts args j),
        arguments_length args j depth f.2,
      )
