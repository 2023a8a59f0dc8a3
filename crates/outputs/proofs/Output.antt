-- The two answers of an output, by its length; that a refusal leaves it as it is; and that the third number keeps to its 24 bits and the
-- output to its length.
-- Assumes nothing.
use mathlib.Core.Path.{◌≡◌, sym, ap, ◌∙◌}
use mathlib.Core.Logic.{by_cases}
use mathlib.Core.Bool.{true}
use mathlib.Core.List.{List, ◌++◌}
use Prim.Native.Nat.{ℕ, ◌^◌, ◌<◌, ◌≤◌}
use native.Mathlib.Omega.{arith}
use native.Mathlib.Decide.{dec_lt}
use lib.ListN.{length, drop, length-append, length-drop}
use borrow.Author.Tests.{le-leb, lt-leb}
use Rattle.std.specs.Prelude.{Ok}
use Rattle.replies.specs.declared.Cause.TheVariants.{ShortOutput}
use Rattle.replies.specs.Replies.{refuses, third, refusal}
use Rattle.replies.proofs.Laws.{first_none, test_here, test_next}
use Rattle.outputs.specs.Output.{output_reply, output_after}

module _ (bytes out : List ℕ) where
  pub too_short : length out < length bytes → output_reply bytes out ≡ refusal ShortOutput 0
  unfolding output_reply
  too_short h = test_here _ _ _ _ _ (lt-leb (length bytes) (length out) h)

  pub has_room : length bytes ≤ length out → output_reply bytes out ≡ Ok (length bytes)
  unfolding output_reply
  has_room h = test_next _ _ _ _ _ (le-leb (length bytes) (length out) h) ∙ first_none (Ok (length bytes))

  -- nothing is put, or all
  pub none_put : length out < length bytes → out ≡ output_after bytes out
  unfolding output_after
  none_put h = rw (too_short h)

  pub all_put : length bytes ≤ length out → bytes ++ drop (length bytes) out ≡ output_after bytes out
  unfolding output_after
  all_put h = rw (has_room h)

  pub output_stays : refuses (output_reply bytes out) ≡ true → out ≡ output_after bytes out
  unfolding output_after
  output_stays e = rw e

  pub output_third : length bytes < 2 ^ 24 → third (output_reply bytes out) < 2 ^ 24
  output_third few =
      by_cases (dec_lt (length out) (length bytes)) (λ h. rw (too_short h) (omega arith)) (λ d. rw (has_room (omega arith)) few)

  pub output_length : length (output_after bytes out) ≡ length out
  output_length =
      by_cases (dec_lt (length out) (length bytes)) (λ h. ap length (sym (none_put h)))
      (λ d. ap length (sym (all_put (omega arith))) ∙ omega (arith, length-append bytes (drop (length bytes) out), length-drop (length bytes) out))
