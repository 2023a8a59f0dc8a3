-- A packet whose tests all pass is well formed: the definitions' tests, passed one after the other.
-- Assumes nothing.
use mathlib.Core.Path.{◌≡◌, refl, ap, ◌∙◌}
use mathlib.Core.Bool.{Bool, true, ◌&&◌}
use mathlib.Core.List.{List}
use Prim.Native.Nat.{ℕ, zero, suc, ◌+◌, ◌≤◌, ◌<◌}
use native.Mathlib.Omega.{arith}
use borrow.Author.Tests.{eq-eqb, lt-ltb}
use Rattle.std.specs.Prelude.{Ok}
use Rattle.replies.specs.Replies.{refuses}
use Rattle.replies.proofs.Laws.{first_next, first_none, test_next}
use Rattle.runs.specs.Runs.{each, within}
use Rattle.meaning.specs.Picture.{Fact}
use Rattle.meaning.specs.Picture.Fact.{has_kind, same, leads}
use Rattle.meaning.specs.Solving.{InRange}
use Rattle.packets.specs.Packet.{byte, ties, joints}
use Rattle.packets.proofs.FactsPacket.{FactAt}
use Rattle.screening.specs.declared.Wanted.{Wanted}
use Rattle.screening.specs.Screening.{length_fits, count_fits, fact_fits, first_unfit, first_bad_tie, first_bad_fact, packet_reply}

pub both_true : (a b : Bool) → a ≡ true → b ≡ true → (a && b) ≡ true
both_true a b p q = cc

module _ (w : Wanted) (n v : ℕ) (p : List ℕ) where
  pub packet_fits :
      length_fits p ≡ true → byte p 2 ≡ 1 → byte p 3 ≡ w.purpose → within w.ties.from w.ties.to (ties p) ≡ true →
      within w.joints.from w.joints.to (joints p) ≡ true → count_fits p ≡ true → first_bad_tie v p ≡ Ok 0 → first_bad_fact n p ≡ Ok 0 →
      packet_reply w n v p ≡ Ok 0
  unfolding packet_reply
  packet_fits length version_1 purposed tied jointed counted no_tie no_fact =
      test_next _ _ _ _ _ length
      ∙ test_next _ _ _ _ _ (eq-eqb _ _ version_1)
      ∙ test_next _ _ _ _ _ (eq-eqb _ _ purposed)
      ∙ test_next _ _ _ _ _ tied
      ∙ test_next _ _ _ _ _ jointed
      ∙ test_next _ _ _ _ _ counted
      ∙ first_next _ _ _ (ap refuses no_tie)
      ∙ first_none _
      ∙ no_fact

-- the first part fits, and those behind it
pub fits_then :
    (fits : ℕ → Bool) (at : ℕ → ℕ) (i count : ℕ) → fits (at i) ≡ true → first_unfit fits at (suc i) count ≡ Ok 0 →
    first_unfit fits at i (suc count) ≡ Ok 0
unfolding first_unfit each
fits_then fits at i count e rest = test_next _ _ _ _ _ e ∙ rest

-- all of count parts fit, from the i-th on
pub all_fit_from :
    (fits : ℕ → Bool) (at : ℕ → ℕ) (i count : ℕ) → ((k : ℕ) → i ≤ k → k < i + count → fits (at k) ≡ true) →
    first_unfit fits at i count ≡ Ok 0
unfolding first_unfit each
all_fit_from fits at i zero h = first_none (Ok 0)
all_fit_from fits at i (suc count) h =
    fits_then fits at i count (h i (omega arith) (omega arith)) (all_fit_from fits at (suc i) count (λ k a b. h k (omega arith) (omega arith)))

-- a fact whose four bytes stand at a place, and which is in range, fits there
module _ (n : ℕ) (p : List ℕ) (at : ℕ) where
  pub fact_fits_lem : (f : Fact ℕ) → FactAt p at f → InRange n (joints p) f → fact_fits n p at ≡ true
  unfolding fact_fits
  fact_fits_lem (has_kind a s) b r =
      rw (b.first, b.second, b.third, b.fourth) (both_true _ _ (both_true _ _ (lt-ltb a (joints p) r.0) (lt-ltb s n r.1)) refl)
  fact_fits_lem (same a c) b r =
      rw (b.first, b.second, b.third, b.fourth) (both_true _ _ (both_true _ _ (lt-ltb a (joints p) r.0) (lt-ltb c (joints p) r.1)) refl)
  fact_fits_lem (leads a l c) b r =
      rw (b.first, b.second, b.third, b.fourth)
      (both_true _ _ (both_true _ _ (lt-ltb a (joints p) r.0) (lt-ltb l 16 r.1)) (lt-ltb c (joints p) r.2))
