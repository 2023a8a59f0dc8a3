-- The reply to a buffer for the house table, and what it then holds, by its length.
-- Assumes nothing.
use mathlib.Core.Path.{◌≡◌}
use mathlib.Core.List.{List}
use Prim.Native.Nat.{ℕ}
use lib.ListN.{length}
use borrow.Author.Tests.{eq-eqb, ne_eqb}
use Rattle.std.specs.Prelude.{Ok}
use Rattle.replies.specs.Replies.{refusal}
use Rattle.replies.specs.declared.Cause.TheVariants.{BadSize}
use Rattle.house.specs.Meets.{house_table}
use Rattle.vornulica.specs.House.{house_reply, house_buffer}

module _ (s : List ℕ) where
  pub house_done : length s ≡ 1089 → house_reply s ≡ Ok 0
  house_done e = rw (eq-eqb (length s) 1089 e)

  pub house_written : (meets : List ℕ) → length s ≡ 1089 → meets ≡ house_table → meets ≡ house_buffer s
  house_written meets e q = rw (eq-eqb (length s) 1089 e) q

  pub house_refused : (length s ≡ 1089 → ⊥) → house_reply s ≡ refusal BadSize 0
  house_refused d = rw (ne_eqb (length s) 1089 d)

  pub house_kept : (length s ≡ 1089 → ⊥) → s ≡ house_buffer s
  house_kept d = rw (ne_eqb (length s) 1089 d)
