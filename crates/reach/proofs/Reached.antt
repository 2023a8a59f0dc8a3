-- Reply 10 is one reply, and it goes by what is reached alone.
-- Assumes nothing.
use mathlib.Core.Path.{◌≡◌, refl, ap, ◌∙◌}
use mathlib.Core.Logic.{by_cases}
use mathlib.Core.Bool.{false, true≢false}
use Prim.Native.Nat.{ℕ, ◌<◌}
use native.Mathlib.Omega.{arith}
use native.Mathlib.Decide.{dec_lt}
use Rattle.std.specs.Prelude.{Ok}
use Rattle.replies.specs.Replies.{third, refuses, Reply, refusal}
use Rattle.replies.specs.declared.Cause.TheVariants.{NotReached}
use Rattle.replies.proofs.Laws.{done}
use Rattle.meaning.specs.Rule.{Rule, Reached, rule_joint}
use Rattle.reach.specs.Reached.{SmallestNot, ReachReply}
use Rattle.reach.specs.Reached.SmallestNot.{all, not_reached}

-- neither of two smallest is below the other
smallest :
    {Is : ℕ → Type 0} (j k : ℕ) → (Is j → ⊥) → ((i : ℕ) → i < j → Is i) → (Is k → ⊥) → ((i : ℕ) → i < k → Is i) → j ≡ k
smallest j k nj bj nk bk =
    by_cases (dec_lt j k) (λ l. absurd (nj (bk j l)))
    (λ a. by_cases (dec_lt k j) (λ l. absurd (nk (bj k l))) (λ b. omega arith))

smallest_one : {Is : ℕ → Type 0} {n : ℕ} {r s : Reply} → SmallestNot Is n r → SmallestNot Is n s → r ≡ s
smallest_one (all a) (all b) = refl
smallest_one (all a) (not_reached j h x b) = absurd (x (a j h))
smallest_one (not_reached j h x b) (all a) = absurd (x (a j h))
smallest_one (not_reached j h x b) (not_reached k i y d) = ap (refusal NotReached) (smallest j k x b y d)

-- it allows one reply
pub reach_one : {r : Rule} {x y : Reply} → ReachReply r x → ReachReply r y → x ≡ y
reach_one a b = smallest_one a b

-- the same reply, where the same joints are meant
pub smallest_same :
    {Is Are : ℕ → Type 0} {n : ℕ} {r : Reply} → ((j : ℕ) → j < n → Is j → Are j) → ((j : ℕ) → j < n → Are j → Is j) →
    SmallestNot Is n r → SmallestNot Are n r
smallest_same f g (all a) = all (λ j h. f j h (a j h))
smallest_same f g (not_reached j h x b) = not_reached j h (λ y. x (g j h y)) (λ i l. f i (omega arith) (b i l))

-- a refusal has third 0, and what is not refused has every joint reached
smallest_third : {Is : ℕ → Type 0} {n : ℕ} {r : Reply} → SmallestNot Is n r → third r ≡ 0
smallest_third (all a) = refl
smallest_third (not_reached j h x b) = refl

smallest_all : {Is : ℕ → Type 0} {n : ℕ} {r : Reply} → SmallestNot Is n r → refuses r ≡ false → (j : ℕ) → j < n → Is j
smallest_all (all a) e = a
smallest_all (not_reached j h x b) e = absurd (true≢false e)

module _ {r : Rule} {x : Reply} (a : ReachReply r x) where
  pub reach_third : third x ≡ 0
  reach_third = smallest_third a

  pub reach_done : refuses x ≡ false → x ≡ Ok 0
  reach_done e = done x e ∙ ap Ok reach_third

  pub all_reached : refuses x ≡ false → (j : ℕ) → j < r.joints → Reached r (rule_joint j)
  all_reached e = smallest_all a e
