-- Loops over the triples to look at: they begin at 2, at 2 and behind the first kind, since none of these comes before; and each turn of the
-- innermost has one law.
-- Assumes nothing.
use mathlib.Core.Path.{◌≡◌, refl, ap, ◌∙◌}
use mathlib.Core.Logic.{by_cases}
use mathlib.Core.Bool.{Bool, cond}
use mathlib.Core.List.{List, [], ◌∷◌, ◌++◌}
use Prim.Native.Nat.{ℕ, ◌+◌, ◌≤◌, ◌<◌}
use native.Mathlib.Omega.{arith}
use native.Mathlib.Decide.{dec_lt}
use Rattle.std.specs.Prelude.{Ok}
use Rattle.replies.specs.Replies.{Reply}
use Rattle.tables.specs.Check.{Law, for_each, first_breach}
use Rattle.tables.specs.Triples.{to_look_at, triples_meant}
use Rattle.tables.proofs.Scan.{Loop, rest, begins, begins_at, opens, passes, closes, no_more}
use Rattle.tables.proofs.Lawfulness.{Kept, nothing, kept_if, each_make}
use Rattle.tables.proofs.Triples.{tells, told}

-- the triples to look at with first i, middle j and last k; with first i and middle j; with first i
abbrev pub with_last : ℕ → ℕ → ℕ → List Law
with_last i j k = cond (to_look_at i j k) (Law.group i j k ∷ []) []

abbrev pub with_middle : ℕ → ℕ → ℕ → List Law
with_middle n i j = for_each n (with_last i j)

abbrev pub with_first : ℕ → ℕ → List Law
with_first n i = for_each n (with_middle n i)

module _ (n : ℕ) (table : List ℕ) where
  not_told : (i j k : ℕ) → ((1 < i) × (1 < j) × (i < k) → ⊥) → Kept n table (with_last i j k)
  not_told i j k f = kept_if n table (Law.group i j k) (to_look_at i j k) (λ e. absurd (f (told i j k e)))

  pub first_loop : 2 ≤ n → Loop n table (first_breach n table (triples_meant to_look_at n)) (with_first n) 2 n []
  unfolding triples_meant
  first_loop h = begins_at n table _ (with_first n) n [] 2 h (begins n table (with_first n) n)
      (λ i a. nothing n table (with_first n i) (each_make n table (with_middle n i) n
      (λ j _. each_make n table (with_last i j) n (λ k _. not_told i j k (λ b. absurd (omega (arith, b.0)))))))

module _ {n : ℕ} {table : List ℕ} {r : Reply} {i : ℕ} where
  -- the largest kind is the first of none
  pub first_ends : Loop n table r (with_first n) i n [] → n ≤ i + 1 → r ≡ Ok 0
  first_ends l h =
      by_cases (dec_lt i n) (λ hi. closes (passes l hi (nothing n table (with_first n i) (each_make n table (with_middle n i) n
      (λ j _. each_make n table (with_last i j) n (λ k hk. not_told n table i j k (λ b. absurd (omega (arith, b.2)))))))) (omega arith) ∙ no_more n table)
      (λ d. closes l (omega arith) ∙ no_more n table)

module _ {n : ℕ} {table : List ℕ} {r : Reply} {i : ℕ} {more : List Law} where
  pub middle_loop :
      Loop n table r (with_first n) i n more → 2 ≤ n → i < n → Loop n table r (with_middle n i) 2 n (rest (with_first n) (i + 1) n ++ more)
  middle_loop l h hi = begins_at n table r (with_middle n i) n _ 2 h (opens l (with_middle n i) n hi refl)
      (λ j a. nothing n table (with_middle n i j) (each_make n table (with_last i j) n (λ k _. not_told n table i j k (λ b. absurd (omega (arith, b.1))))))

  module _ {j : ℕ} where
    pub last_loop :
        Loop n table r (with_middle n i) j n more → i < n → j < n → Loop n table r (with_last i j) (i + 1) n (rest (with_middle n i) (j + 1) n ++ more)
    last_loop l hi hj = begins_at n table r (with_last i j) n _ (i + 1) (omega arith) (opens l (with_last i j) n hj refl)
        (λ k a. nothing n table (with_last i j k) (not_told n table i j k (λ b. absurd (omega (arith, b.2)))))

-- each turn of the innermost loop is one law
pub one_law : {i j k : ℕ} → 2 ≤ i → 2 ≤ j → i < k → with_last i j k ≡ Law.group i j k ∷ []
one_law {i} {j} {k} hi hj h = ap (λ (t : Bool). cond t (Law.group i j k ∷ []) []) (tells i j k hi hj (omega arith) h)
