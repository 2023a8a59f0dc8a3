-- Once the laws before them hold, the first triple that breaks its law is one without 0 and 1 whose first is below its last: so the others need
-- not be looked at. And the reply to a table tells of that triple.
-- Assumes nothing.
use mathlib.Core.Path.{◌≡◌, refl, ap, ◌∙◌, sym}
use mathlib.Core.Logic.{◌↔◌, by_cases}
use mathlib.Core.Bool.{Bool, true, false, cond, ◌&&◌, true≢false, and-eq-true_iff}
use mathlib.Core.List.{List, [], ◌∷◌, ◌++◌}
use Prim.Native.Nat.{ℕ, zero, suc, ◌+◌, ◌*◌, ◌<◌}
use native.Mathlib.Omega.{arith}
use native.Mathlib.Decide.{ℕ_discrete, dec_lt}
use lib.Dec.{ltb}
use borrow.Author.Tests.{lt-ltb, ltb-true}
use Rattle.std.specs.Prelude.{Ok}
use Rattle.kinds.specs.Kinds.{meet_at}
use Rattle.kinds.specs.Sizes.{AllKinds}
use Rattle.kinds.proofs.Offset.{offset_lt}
use Rattle.replies.specs.declared.Cause.TheVariants.{LawBroken}
use Rattle.replies.specs.Replies.{refuses, refusal}
use Rattle.tables.specs.Check.{Law, law_reply, for_each, entries, singles, pairs, triples, first_breach}
use Rattle.tables.specs.Triples.{EarlierHold, every_triple, to_look_at, triples_meant, Before, FirstBroken}
use Rattle.tables.proofs.Scan.{begins, begins_at, opens, stops, equal, unequal, first_kept, first_broken, first_of, second_of}
use Rattle.tables.proofs.Lawfulness.{Kept, passes_kept, nothing, kept_if, each_make, each_use, kept_entries, singles_say, pairs_say, triples_say, kept_passes}

-- what the test says of a triple
pub tells : (i j k : ℕ) → 1 < i → 1 < j → 1 < k → i < k → to_look_at i j k ≡ true
tells i j k hi hj hk h = rw (lt-ltb 1 i hi, lt-ltb 1 j hj, lt-ltb 1 k hk, lt-ltb i k h)

pub told : (i j k : ℕ) → to_look_at i j k ≡ true → (1 < i) × (1 < j) × (i < k)
told i j k e =
    let p = (and-eq-true_iff (ltb 1 i && ltb 1 j && ltb 1 k) (ltb i k)).0 e in
    let q = (and-eq-true_iff (ltb 1 i && ltb 1 j) (ltb 1 k)).0 p.0 in
    let r = (and-eq-true_iff (ltb 1 i) (ltb 1 j)).0 q.0 in
    (ltb-true 1 i r.0, ltb-true 1 j r.1, ltb-true i k p.1)

-- an operation on the kinds below n that keeps the laws before the triples
record Commuting (n : ℕ) (meet : ℕ → ℕ → ℕ) : Type 0 where
  closed : {i j : ℕ} → i < n → j < n → meet i j < n
  none : {i : ℕ} → i < n → meet 0 i ≡ 0
  any : {i : ℕ} → i < n → meet 1 i ≡ i
  swap : {i j : ℕ} → i < n → j < n → meet i j ≡ meet j i

module _ {n : ℕ} {meet : ℕ → ℕ → ℕ} (L : Commuting n meet) where
  abbrev Grouped : ℕ → ℕ → ℕ → Type 0
  Grouped i j k = meet (meet i j) k ≡ meet i (meet j k)

  -- a triple read backwards says the same
  backwards : {i j k : ℕ} → i < n → j < n → k < n → Grouped k j i → Grouped i j k
  backwards {i} {j} {k} hi hj hk e =
      L.swap (L.closed hi hj) hk ∙ ap (meet k) (L.swap hi hj) ∙ sym e ∙ L.swap (L.closed hk hj) hi ∙ ap (meet i) (L.swap hk hj)

  alike : {i j : ℕ} → i < n → j < n → Grouped i j i
  alike {i} {j} hi hj = L.swap (L.closed hi hj) hi ∙ ap (meet i) (L.swap hi hj)

  module _ {i k : ℕ} (hi : i < n) (hk : k < n) where
    none_first : {j : ℕ} → j < n → Grouped 0 j k
    none_first hj = ap (λ (x : ℕ). meet x k) (L.none hj) ∙ L.none hk ∙ sym (L.none (L.closed hj hk))

    any_first : {j : ℕ} → j < n → Grouped 1 j k
    any_first hj = ap (λ (x : ℕ). meet x k) (L.any hj) ∙ sym (L.any (L.closed hj hk))

    none_amid : 0 < n → Grouped i 0 k
    none_amid h0 = let z : meet i 0 ≡ 0 = L.swap hi h0 ∙ L.none hi in
        ap (λ (x : ℕ). meet x k) z ∙ L.none hk ∙ sym z ∙ ap (meet i) (sym (L.none hk))

    any_amid : 1 < n → Grouped i 1 k
    any_amid h1 = ap (λ (x : ℕ). meet x k) (L.swap hi h1 ∙ L.any hi) ∙ ap (meet i) (sym (L.any hk))

  -- a triple that holds 0 or 1, or whose first is not below its last, breaks its law only if an earlier one does
  silent : {i j k : ℕ} → i < n → j < n → k < n → to_look_at i j k ≡ false → (k < i → Grouped k j i) → Grouped i j k
  silent {i} {j} {k} hi hj hk e f =
      by_cases (ℕ_discrete i 0) (λ q. rw q (none_first hi hk hj))
      (λ i0. by_cases (ℕ_discrete i 1) (λ q. rw q (any_first hi hk hj))
      (λ i1. by_cases (ℕ_discrete j 0) (λ q. rw q (none_amid hi hk (omega arith)))
      (λ j0. by_cases (ℕ_discrete j 1) (λ q. rw q (any_amid hi hk (omega arith)))
      (λ j1. by_cases (dec_lt k i) (λ h. backwards hi hj hk (f h))
      (λ d. by_cases (ℕ_discrete i k) (λ q. rw (sym q) (alike hi hj))
      (λ ik. absurd (true≢false (sym (tells i j k (omega arith) (omega arith) (omega arith) (omega arith)) ∙ e))))))))

-- two ways to go through the laws tell the same first breach, if at each i they do once nothing before it was broken
module _ (n : ℕ) (table : List ℕ) (f g : ℕ → List Law) where
  each_same :
      (m : ℕ) → ((i : ℕ) → i < m → ((x : ℕ) → x < i → Kept n table (f x)) → first_breach n table (f i) ≡ first_breach n table (g i)) →
      first_breach n table (for_each m f) ≡ first_breach n table (for_each m g)
  unfolding for_each
  each_same zero h = refl
  each_same (suc m) h = by_front (refuses (first_breach n table (for_each m f))) refl (each_same m (λ i a. h i (omega arith)))
    where
      by_front :
          (t : Bool) → refuses (first_breach n table (for_each m f)) ≡ t → first_breach n table (for_each m f) ≡ first_breach n table (for_each m g) →
          first_breach n table (for_each m f ++ f m) ≡ first_breach n table (for_each m g ++ g m)
      by_front true q e = first_of n table (for_each m f) (f m) q ∙ e ∙ sym (first_of n table (for_each m g) (g m) (ap refuses (sym e) ∙ q))
      by_front false q e =
          second_of n table (for_each m f) (f m) q
          ∙ h m (omega arith) (each_use n table f m (passes_kept n table (for_each m f) q))
          ∙ sym (second_of n table (for_each m g) (g m) (ap refuses (sym e) ∙ q))

-- a triple read backwards comes before it where its last is below its first
sooner : {x y z i j k : ℕ} → z < x → Before x y z i j k → Before z y x i j k
sooner d (Before.by_first h) = Before.by_first (omega arith)
sooner d (Before.by_second e h) = Before.by_first (omega arith)
sooner d (Before.by_third e q h) = Before.by_first (omega arith)

pub kinds_entries : (n : ℕ) (table : List ℕ) → AllKinds n table → first_breach n table (entries n) ≡ Ok 0
kinds_entries n table z = kept_passes n table (entries n) ((kept_entries n table).1 z)

pub entries_kinds : (n : ℕ) (table : List ℕ) → first_breach n table (entries n) ≡ Ok 0 → AllKinds n table
entries_kinds n table e = (kept_entries n table).0 (passes_kept n table (entries n) (ap refuses e))

-- the laws before the triples, read off the check
module _ {n : ℕ} {table : List ℕ} (E : EarlierHold n table) where
  all_kinds : AllKinds n table
  all_kinds = entries_kinds n table E.entries_hold

  commuting : Commuting n (meet_at n table)
  commuting =
      let one = singles_say n table (passes_kept n table (singles n) (ap refuses E.singles_hold)) in
      let two = pairs_say n table (passes_kept n table (pairs n) (ap refuses E.pairs_hold)) in
      record {
        closed = λ {i} {j} hi hj. all_kinds (i * n + j) (offset_lt hi hj);
        none = λ {i} hi. (one i hi).none;
        any = λ {i} hi. (one i hi).any;
        swap = λ {i} {j} hi hj. two i j hi hj;
      }

  -- the first broken triple of all is the first of those to look at, and the other way round
  pub same_first : (i j k : ℕ) → FirstBroken n (meet_at n table) every_triple i j k ↔ FirstBroken n (meet_at n table) to_look_at i j k
  same_first i j k = (first_tells, first_of_all)
    where
      first_tells : FirstBroken n (meet_at n table) every_triple i j k → FirstBroken n (meet_at n table) to_look_at i j k
      first_tells F =
          record {
            kinds = F.kinds;
            is_meant = by_test (to_look_at i j k) refl;
            is_broken = F.is_broken;
            earlier_keep = λ x y z hx hy hz m b. F.earlier_keep x y z hx hy hz refl b;
          }
        where
          by_test : (t : Bool) → to_look_at i j k ≡ t → to_look_at i j k ≡ true
          by_test true e = e
          by_test false e =
              let h = F.kinds in
              absurd (F.is_broken (silent commuting h.0 h.1 h.2 e (λ d. F.earlier_keep k j i h.2 h.1 h.0 refl (Before.by_first d))))

      first_of_all : FirstBroken n (meet_at n table) to_look_at i j k → FirstBroken n (meet_at n table) every_triple i j k
      first_of_all F =
          record {
            kinds = F.kinds;
            is_meant = refl;
            is_broken = F.is_broken;
            earlier_keep = λ x y z hx hy hz m b. by_test x y z hx hy hz b (to_look_at x y z) refl;
          }
        where
          by_test : (x y z : ℕ) → x < n → y < n → z < n → Before x y z i j k → (t : Bool) → to_look_at x y z ≡ t → Grouped commuting x y z
          by_test x y z hx hy hz b true e = F.earlier_keep x y z hx hy hz e b
          by_test x y z hx hy hz b false e = silent commuting hx hy hz e (λ d. mirrored d (to_look_at z y x) refl)
            where
              mirrored : z < x → (t : Bool) → to_look_at z y x ≡ t → Grouped commuting z y x
              mirrored d true q = F.earlier_keep z y x hz hy hx q (sooner d b)
              mirrored d false q = silent commuting hz hy hx q (λ o. absurd (omega arith))

  -- a triple that is passed over changes no reply, where those with an earlier first kind keep their law
  passed_over :
      (i j k : ℕ) → i < n → j < n → k < n → ((x : ℕ) → x < i → Kept n table (for_each n (λ y. for_each n (λ z. Law.group x y z ∷ [])))) →
      (t : Bool) → to_look_at i j k ≡ t → first_breach n table (Law.group i j k ∷ []) ≡ first_breach n table (cond t (Law.group i j k ∷ []) [])
  unfolding law_reply
  passed_over i j k hi hj hk before true e = refl
  passed_over i j k hi hj hk before false e =
      first_kept n table (Law.group i j k) []
      (equal LawBroken (i * n + j) (silent commuting hi hj hk e (λ d. triples_say n table k (before k d) j i hj hi)))

  -- the reply to the first broken triple is that to the first broken one of those to look at
  pub same_reply : first_breach n table (triples n) ≡ first_breach n table (triples_meant to_look_at n)
  unfolding triples triples_meant
  same_reply =
      each_same n table _ _ n (λ i hi before.
      each_same n table _ _ n (λ j hj _.
      each_same n table _ _ n (λ k hk _. passed_over i j k hi hj hk before (to_look_at i j k) refl)))

-- the reply tells of the first broken triple, in the order of `Before`
module _ (n : ℕ) (table : List ℕ) (meant : ℕ → ℕ → ℕ → Bool) {i j k : ℕ} (F : FirstBroken n (meet_at n table) meant i j k) where
  abbrev law : ℕ → ℕ → ℕ → List Law
  law x y z = cond (meant x y z) (Law.group x y z ∷ []) []

  earlier : (x y z : ℕ) → x < n → y < n → z < n → Before x y z i j k → Kept n table (law x y z)
  unfolding law_reply
  earlier x y z hx hy hz b =
      kept_if n table (Law.group x y z) (meant x y z) (λ e. equal LawBroken (x * n + y) (F.earlier_keep x y z hx hy hz e b))

  broken_here : first_breach n table (law i j k) ≡ refusal LawBroken (i * n + j)
  unfolding law_reply
  broken_here =
      ap (λ (t : Bool). first_breach n table (cond t (Law.group i j k ∷ []) [])) F.is_meant
      ∙ first_broken n table (Law.group i j k) [] (unequal LawBroken (i * n + j) F.is_broken)

  pub first_told : first_breach n table (triples_meant meant n) ≡ refusal LawBroken (i * n + j)
  unfolding triples_meant
  first_told =
      let h = F.kinds in
      let at_i = begins_at n table _ (λ x. for_each n (λ y. for_each n (law x y))) n [] i (omega arith) (begins n table _ n)
      (λ x a. nothing n table _ (each_make n table (λ y. for_each n (law x y)) n
      (λ y hy. each_make n table (law x y) n (λ z hz. earlier x y z (omega arith) hy hz (Before.by_first a))))) in
      let at_j = begins_at n table _ (λ y. for_each n (law i y)) n _ j (omega arith) (opens at_i _ n h.0 refl)
      (λ y a. nothing n table _ (each_make n table (law i y) n (λ z hz. earlier i y z h.0 (omega arith) hz (Before.by_second refl a)))) in
      let at_k = begins_at n table _ (law i j) n _ k (omega arith) (opens at_j _ n h.1 refl)
      (λ z a. nothing n table _ (earlier i j z h.0 h.1 (omega arith) (Before.by_third refl refl a))) in
      stops at_k h.2 (ap refuses broken_here) ∙ broken_here

-- all triples are those of the check
pub all_meant : (n : ℕ) → triples_meant every_triple n ≡ triples n
unfolding triples_meant triples
all_meant n = refl
