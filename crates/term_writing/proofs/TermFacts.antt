-- The facts of the term of a joint, by walks: a fact that a row says stands in the term exactly where a walk leads to that row's joint, and
-- only once where at most one walk leads to each joint.
-- Assumes nothing.
use mathlib.Core.Path.{◌≡◌, refl, sym, ap, subst}
use mathlib.Core.Logic.{◌≢◌, ⊎_elim, by_cases}
use mathlib.Core.List.Memᴰ
use mathlib.Core.List.{List, [], ◌∷◌, Memᴰ}
use Prim.Native.Nat.{ℕ, zero, suc, ◌+◌, ◌<◌, ◌≤◌}
use native.Mathlib.Omega.{arith}
use native.Mathlib.Decide.{ℕ_discrete}
use lib.ListN.{length}
use Rattle.meaning.specs.Picture.{Fact}
use Rattle.meaning.specs.Picture.Fact.{has_kind, same, leads}
use Rattle.meaning.specs.Form.{Form, unknown}
use Rattle.terms.specs.Term.{Term}
use Rattle.terms.specs.Facts.{term_facts}
use Rattle.term_writing.specs.Tree.{Walk, link_terms, term_from}
use Rattle.term_writing.proofs.Distinct.{Distinct, distinct_append}
use Rattle.term_writing.proofs.Walks.{OneEach, one_each_next}
use Rattle.term_writing.proofs.RowFacts.{subject, Says}
use Rattle.term_writing.proofs.LinkTerms.{items, item_facts, unknown_next, next_facts, ItemFact, item_cases, from_joint}
use Rattle.term_writing.proofs.LinkTerms.{KindFact, kind_unwritten, kind_written_lem}
use Rattle.term_writing.proofs.LinkTerms.{cut_cases, from_facts, from_cases, kind_member, link_member}
use Rattle.term_writing.proofs.LinkTerms.ItemFact.{own, inner}

module _ (S : Form) where
  -- a walk from joint j to the joint that the fact is about, whose row says it
  pub record From (j : ℕ) (f : Fact ℕ) : Type 0 where
    pub walk : List ℕ
    pub there : Walk S j walk (subject f)
    pub says : Says S f

  -- every fact of a joint's term is from there
  kind_from : {f : Fact ℕ} (j : ℕ) → KindFact S j f → From j f
  kind_from j k = rw k.1 (record { walk = []; there = refl; says = (k.0, refl) })

  further : {f : Fact ℕ} (j l : ℕ) → l < 16 → S.link j l ≢ unknown → From (S.link j l) f → From j f
  further j l below known r = record { walk = l ∷ r.walk; there = (below, known, r.there); says = r.says }

  item_from : {f : Fact ℕ} (term_of : ℕ → Term) (j : ℕ) → ((c : ℕ) → Memᴰ f (term_facts (term_of c)) → From c f) →
      ItemFact S term_of j 0 f → From j f
  item_from term_of j deeper (own l from below known e) = rw e (record { walk = []; there = refl; says = (below, known, refl) })
  item_from term_of j deeper (inner l from below known m) = further j l below known (deeper (S.link j l) m)

  pub term_from_lem : {f : Fact ℕ} (depth j : ℕ) → Memᴰ f (term_facts (term_from S depth j)) → From j f
  term_from_lem zero j m = kind_from j (cut_cases S j m)
  term_from_lem (suc depth) j m =
      ⊎_elim (kind_from j) (item_from (λ c. term_from S depth c) j (λ c i. term_from_lem depth c i)) (from_cases S j depth m)

  -- and every fact to whose joint a walk leads that is not too long is in the term
  at_joint : (f : Fact ℕ) (depth : ℕ) → Says S f → Memᴰ f (term_facts (term_from S (suc depth) (subject f)))
  at_joint (has_kind a s) depth says = Memᴰ.cast (ap (has_kind a) says.1) (kind_member S a depth says.0)
  at_joint (same a b) depth says = absurd says
  at_joint (leads a l c) depth says = link_member S a depth (own l (omega arith) says.0 says.1 (ap (leads a l) says.2))

  pub in_term : (f : Fact ℕ) (depth j : ℕ) (walk : List ℕ) → length walk < depth → Walk S j walk (subject f) → Says S f →
      Memᴰ f (term_facts (term_from S depth j))
  in_term f zero j walk short there says = absurd (omega arith)
  in_term f (suc depth) j [] short there says =
      subst (λ (x : ℕ). Memᴰ f (term_facts (term_from S (suc depth) x))) (sym there) (at_joint f depth says)
  in_term f (suc depth) j (l ∷ walk) short there says =
      link_member S j depth
      (inner l (omega arith) there.0 there.1 (in_term f depth (S.link j l) walk (omega arith) there.2 says))

  -- where at most one walk leads to each joint, no fact stands in the term twice
  module _ (j : ℕ) (one : OneEach S j) where
    no_return : (l : ℕ) (p : List ℕ) → Walk S j (l ∷ p) j → ⊥
    no_return l p a = omega (arith, ap length (one j (l ∷ p) [] a refl))

    module _ (depth : ℕ) where
      abbrev inside : ℕ → Term
      inside c = term_from S depth c

      -- the joint's own facts are not among those inside
      not_inside : {f : Fact ℕ} (l : ℕ) → subject f ≡ j → l < 16 → S.link j l ≢ unknown → Memᴰ f (term_facts (inside (S.link j l))) → ⊥
      not_inside l e below known m =
          let r = term_from_lem depth (S.link j l) m in no_return l r.walk (below, known, subst (Walk S (S.link j l) r.walk) e r.there)

      not_later : (l low c : ℕ) → l < low → ItemFact S inside j low (leads j l c) → ⊥
      not_later l low c h (own i from below known e) = let q : l ≡ i = cc in omega arith
      not_later l low c h (inner i from below known m) = not_inside i refl below known m

      -- nor are those inside at one link among those at another
      not_elsewhere : {f : Fact ℕ} (l low : ℕ) → l < low → l < 16 → S.link j l ≢ unknown → Memᴰ f (term_facts (inside (S.link j l))) →
          ItemFact S inside j low f → ⊥
      not_elsewhere l low h below known m (own i from _ _ e) = not_inside l (ap subject e) below known m
      not_elsewhere {f} l low h below known m (inner i from small some k) =
          let a = term_from_lem depth (S.link j l) m in
          let b = term_from_lem depth (S.link j i) k in
          let e = one (subject f) (l ∷ a.walk) (i ∷ b.walk) (below, known, a.there) (small, some, b.there) in
          let q : l ≡ i = cc in
          omega arith

      not_kind : {s : ℕ} → Memᴰ (has_kind j s) (item_facts j (items S inside j 0 16)) → ⊥
      not_kind m = elsewhere (item_cases S inside j (from_joint S depth) 0 16 (omega arith) m)
        where
          elsewhere : {s : ℕ} → ItemFact S inside j 0 (has_kind j s) → ⊥
          elsewhere (own i from below known e) = let z : ◌≡◌ {A = ℕ} 0 1 = cc in omega arith
          elsewhere (inner i from below known m) = not_inside i refl below known m

      items_distinct :
          ((l : ℕ) → l < 16 → S.link j l ≢ unknown → Distinct (term_facts (inside (S.link j l)))) →
          (l count : ℕ) → l + count ≤ 16 → Distinct (item_facts j (items S inside j l count))
      unfolding link_terms
      items_distinct each l zero h = tt
      items_distinct each l (suc count) h =
          let rest = items_distinct each (suc l) count (omega arith) in
          let later : (f : Fact ℕ) → Memᴰ f (item_facts j (items S inside j (suc l) count)) → ItemFact S inside j (suc l) f =
          λ f m. item_cases S inside j (from_joint S depth) (suc l) count (omega arith) m in
          by_cases (ℕ_discrete (S.link j l) unknown)
          (λ e. rw (unknown_next S inside j l count e) rest)
          (λ d.
          rw (next_facts S inside j (from_joint S depth) l count d) (
            λ m.
                ⊎_elim (not_inside l refl (omega arith) d) (λ k. not_later l (suc l) (S.link j l) (omega arith) (later _ k))
                (Memᴰ.append_cases (term_facts (inside (S.link j l))) m),
            distinct_append (term_facts (inside (S.link j l))) _ (each l (omega arith) d) rest
                (λ f m k. not_elsewhere l (suc l) (omega arith) (omega arith) d m (later f k)),
          ))

  pub term_distinct : (depth j : ℕ) → OneEach S j → Distinct (term_facts (term_from S depth j))
  unfolding term_from term_facts
  term_distinct zero j one =
      by_cases (ℕ_discrete (S.kind j) 1)
      (λ e. rw (kind_unwritten S j e) tt)
      (λ d. rw (kind_written_lem S j d) (λ m. Memᴰ.not-nil m, tt))
  term_distinct (suc depth) j one =
      let links =
      items_distinct j one depth (λ l below known. term_distinct depth (S.link j l) (one_each_next S j l below known one)) 0 16 (omega arith) in
      rw (from_facts S j depth)
      (by_cases (ℕ_discrete (S.kind j) 1)
      (λ e. rw (kind_unwritten S j e) links)
      (λ d. rw (kind_written_lem S j d) (not_kind j one depth, links)))
