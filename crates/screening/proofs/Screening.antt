-- The laws of the tests of a packet, and of a search for the first part that does not fit: what is left of it at each turn of a loop.
-- Assumes nothing.
use mathlib.Core.Path.{◌≡◌, refl, ap, ◌∙◌}
use mathlib.Core.Bool.{Bool, true, false, ◌&&◌, false≢true}
use mathlib.Core.List.{List, ◌∷◌}
use Prim.Native.Nat.{ℕ, ◌+◌, ◌-◌, ◌*◌, ◌≤◌, ◌<◌}
use native.Mathlib.Omega.{arith}
use lib.ListN.{length}
use borrow.Author.Tests.{leb-true, eqb-true}
use Rattle.std.specs.Prelude.{Ok}
use Rattle.replies.specs.declared.Cause.TheVariants.{BadPart}
use Rattle.replies.specs.Replies.{unless, first_refusal, Reply, refusal}
use Rattle.replies.proofs.Laws.{first_none, test_here, test_next}
use Rattle.runs.specs.Runs.{each}
use Rattle.runs.proofs.Each.{each_step, each_end}
use Rattle.packets.specs.Packet.{L, ties, tie_at, fact_at, fact_count}
use Rattle.screening.specs.Screening.{length_fits, count_fits, first_unfit}
use Rattle.screening.specs.Whole.{Whole}

pub both : (a b : Bool) → (a && b) ≡ true → (a ≡ true) × (b ≡ true)
both true b e = (refl, e)
both false b e = absurd (false≢true e)

module _ (p : List ℕ) where
  pub length_right : length_fits p ≡ true → (6 ≤ length p) × (length p ≡ L p + 2)
  length_right e = let b = both _ _ e in (leb-true 6 (length p) b.0, eqb-true (length p) (L p + 2) b.1)

  pub count_right : count_fits p ≡ true → (L p ≡ 4 + 2 * ties p + 4 * fact_count p) × (fact_count p ≤ 1088)
  count_right e =
      let b = both _ _ e in
      (eqb-true (L p) (4 + 2 * ties p + 4 * fact_count p) b.0, leb-true (fact_count p) 1088 b.1)

  pub whole : length_fits p ≡ true → count_fits p ≡ true → Whole p
  whole l c =
      let s = length_right l in
      let f = count_right c in
      record { header = s.0; ends = omega arith; few = f.1 }

-- where the facts reach to the end, every tie and every fact lies inside
pub tie_inside : {p : List ℕ} → Whole p → (i : ℕ) → i < ties p → tie_at i + 2 ≤ length p
tie_inside w i h = omega (arith, w.ends)

pub fact_inside : {p : List ℕ} → Whole p → (i : ℕ) → i < fact_count p → fact_at p i + 4 ≤ length p
fact_inside w i h = omega (arith, w.ends)

-- x is the first unfit part of those from the i-th to the last of n
pub record Left (x : Reply) (fits : ℕ → Bool) (at : ℕ → ℕ) (i n : ℕ) : Type 0 where
  pub is : x ≡ first_unfit fits at i (n - i)

pub begins : (fits : ℕ → Bool) (at : ℕ → ℕ) {n count : ℕ} → n ≡ count → Left (first_unfit fits at 0 count) fits at 0 n
begins fits at e = record { is = ap (first_unfit fits at 0) (omega arith) }

module _ {x : Reply} {fits : ℕ → Bool} {at : ℕ → ℕ} {i n : ℕ} (l : Left x fits at i n) where
  abbrev parts : ℕ → Reply
  parts k = unless (fits (at k)) BadPart (at k)

  turn : i < n → x ≡ first_refusal (parts i ∷ each parts (i + 1) (n - (i + 1))) (Ok 0)
  unfolding first_unfit
  turn h = l.is ∙ ap (λ (rs : List Reply). first_refusal rs (Ok 0)) (each_step parts h)

  pub passes : i < n → fits (at i) ≡ true → Left x fits at (i + 1) n
  unfolding first_unfit
  passes h e = record { is = turn h ∙ test_next _ _ _ _ _ e }

  pub stops : i < n → fits (at i) ≡ false → x ≡ refusal BadPart (at i)
  stops h e = turn h ∙ test_here _ _ _ _ _ e

  pub ends : n ≤ i → x ≡ Ok 0
  unfolding first_unfit
  ends h = l.is ∙ ap (λ (rs : List Reply). first_refusal rs (Ok 0)) (each_end parts h) ∙ first_none (Ok 0)
