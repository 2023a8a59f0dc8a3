-- Under by parents is a partial order of the house kinds with 0 below and 1 above all: parents have smaller numbers than their kind.
-- A climb along the parents decides it.
-- Assumes nothing.
use mathlib.Core.Path.{◌≡◌, subst}
use mathlib.Core.Logic.{by_cases}
use mathlib.Core.Bool.{Bool, true, ◌&&◌, ◌||◌}
use mathlib.Core.List.Memᴰ
use mathlib.Core.List.{List, [], Memᴰ}
use Prim.Native.Nat.{ℕ, zero, suc, ◌≤◌, ◌<◌}
use native.Mathlib.Omega.{arith}
use native.Mathlib.Decide.{dec_lt}
use lib.Dec.{T, eqb, ltb, ltb→lt, eqb→eq, eqb_refl}
use lib.ListN.{get_or, get_or-eq_default}
use Rattle.kinds.proofs.Order.{Ordered}
use Rattle.house.specs.Parents.{parents, UnderByParents}
use Rattle.house.specs.Parents.UnderByParents.{none_under, itself, by_parent}
use Rattle.house.proofs.Tests.{and_left, and_right, or_left, or_right, or_cases, below, all_of, of_all, some_of, some_of_lem, of_some}

parent_lower : (s : ℕ) {p : ℕ} → Memᴰ p (get_or parents s []) → (0 < p) × (p < s)
parent_lower s {p} m =
    by_cases (dec_lt s 33)
    (λ h.
    let t = of_all (λ q. ltb 0 q && ltb q s) (get_or parents s []) (below 33 (λ k. all_of (λ q. ltb 0 q && ltb q k) (get_or parents k [])) tt s h) m in
    (ltb→lt 0 p (and_left (ltb 0 p) (ltb p s) t), ltb→lt p s (and_right (ltb 0 p) (ltb p s) t)))
    (λ d.
    let out : get_or parents s [] ≡ [] = get_or-eq_default parents [] {n = s} (omega arith) in
    absurd (Memᴰ.not-nil (subst (λ (ps : List ℕ). Memᴰ p ps) out m)))

-- what a kind other than 0 is under is not 0, and has no larger number
lower : {s t : ℕ} → UnderByParents s t → 0 < s → (0 < t) × (t ≤ s)
lower none_under h = absurd (omega arith)
lower itself h = (h, omega arith)
lower (by_parent {s = s} m u) h = let p = parent_lower s m in let l = lower u p.0 in (l.0, omega (arith, l.1, p.1))

pub under_trans : {r s t : ℕ} → UnderByParents r s → UnderByParents s t → UnderByParents r t
under_trans none_under v = none_under
under_trans itself v = v
under_trans (by_parent m u) v = by_parent m (under_trans u v)

under_antisym : (s t : ℕ) → UnderByParents s t → UnderByParents t s → s ≡ t
under_antisym s t u v =
    by_cases (dec_lt 0 s)
    (λ h. let l = lower u h in omega (arith, l.1, (lower v l.0).1))
    (λ d. by_cases (dec_lt 0 t) (λ h. absurd (d (lower v h).0)) (λ e. omega arith))

-- t is reached from s by at most as many steps to a parent as the first number says
abbrev pub climb : ℕ → ℕ → ℕ → Bool
climb zero t s = eqb s t
climb (suc steps) t s = eqb s t || some_of (climb steps t) (get_or parents s [])

pub climbs_under : (steps t s : ℕ) → T (climb steps t s) → UnderByParents s t
climbs_under zero t s h = subst (λ (x : ℕ). UnderByParents s x) (eqb→eq s t h) itself
climbs_under (suc steps) t s h =
    or_cases (eqb s t) (some_of (climb steps t) (get_or parents s [])) h
    (λ e. subst (λ (x : ℕ). UnderByParents s x) (eqb→eq s t e) itself)
    (λ m. let p = of_some (climb steps t) (get_or parents s []) m in by_parent p.member (climbs_under steps t p.it p.passes))

-- a parent's number is smaller, so that as many steps as the kind's number are enough
under_climbs : {s t : ℕ} → UnderByParents s t → (steps : ℕ) → s ≤ steps → 0 < s → T (climb steps t s)
under_climbs none_under steps h pos = absurd (omega arith)
under_climbs {s} itself zero h pos = eqb_refl s
under_climbs {s} itself (suc steps) h pos = or_left (eqb s s) (some_of (climb steps s) (get_or parents s [])) (eqb_refl s)
under_climbs {s} {t} (by_parent m u) zero h pos = absurd (omega arith)
under_climbs {s} {t} (by_parent m u) (suc steps) h pos =
    let p = parent_lower s m in
    or_right (eqb s t) (some_of (climb steps t) (get_or parents s [])) (some_of_lem (climb steps t) (get_or parents s []) m (under_climbs u steps (omega (arith, p.1)) p.0))

-- s is under t, decided
abbrev pub under? : ℕ → ℕ → Bool
under? zero t = true
under? (suc s) t = climb (suc s) t (suc s)

pub yes_under : (s t : ℕ) → T (under? s t) → UnderByParents s t
yes_under zero t h = none_under
yes_under (suc s) t h = climbs_under (suc s) t (suc s) h

pub under_yes : (s t : ℕ) → UnderByParents s t → T (under? s t)
under_yes zero t u = tt
under_yes (suc s) t u = under_climbs u (suc s) (omega arith) (omega arith)

pub house_ordered : Ordered 33 UnderByParents
house_ordered =
    record {
      reflexive = λ i h. itself;
      antisymmetric = λ i j hi hj a b. under_antisym i j a b;
      transitive = λ i j k hi hj hk a b. under_trans a b;
      least = λ i h. none_under;
      most = λ i h. yes_under i 1 (below 33 (λ k. under? k 1) tt i h);
    }
