-- The term of a tree says what its form says: every joint that has a fact is reached from the root by one walk of fewer than 16 links, so its
-- facts stand in the term, and once. So the term fits, is whole, in range and short, and means what the form means.
-- Assumes nothing.
use mathlib.Core.Path.{◌≡◌, refl, sym, ap}
use mathlib.Core.Logic.{◌↔◌, by_cases}
use mathlib.Core.List.{List, [], ◌∷◌, Memᴰ}
use Prim.Native.Nat.{ℕ, zero, suc, ◌<◌, ◌≤◌}
use native.Mathlib.Omega.{arith}
use native.Mathlib.Decide.{ℕ_discrete}
use lib.ListN.{length, length-map}
use Rattle.meaning.specs.Picture.{Fact, Picture, All, rename}
use Rattle.meaning.specs.Picture.Fact.{has_kind, same, leads}
use Rattle.meaning.specs.Form.{Form, facts_of, rig_joint}
use Rattle.meaning.specs.Solving.{Well}
use Rattle.meaning.proofs.Facts.{all_member}
use Rattle.writing.proofs.Writing.{taken_few}
use Rattle.terms.specs.Term.{Term}
use Rattle.terms.specs.Language.{KindShort, Fits, deepest}
use Rattle.terms.specs.Facts.{term_facts}
use Rattle.term_writing.specs.Tree.{Concerned, TreeFrom, kind_written, term_with, term_from}
use Rattle.term_writing.specs.Tree.Concerned.{kind_known, link_known}
use Rattle.term_writing.specs.Rising.{Rising}
use Rattle.term_writing.proofs.Distinct.{no_longer}
use Rattle.term_writing.proofs.Walks.{Within, within_next, Inside, well_inside, walk_inside, only_walk, short_walk}
use Rattle.term_writing.proofs.RowFacts.{subject, Says, form_cases, form_member}
use Rattle.term_writing.proofs.TermFacts.{term_from_lem, in_term, term_distinct}
use Rattle.term_writing.proofs.LinkTerms.{items, KindBelow, Ranged, with_ranged, with_fits, each_item, of_kind_written, items_same, from_rises}

kind_short : (s : ℕ) → s < 1000 → KindShort (kind_written s)
kind_short s h = of_kind_written KindShort s tt (λ _. h)

kind_below : (n s : ℕ) → s < n → KindBelow n (kind_written s)
kind_below n s h = of_kind_written (KindBelow n) s tt (λ _. h)

-- facts that are all among others hold where those do
all_within : {n : ℕ} (meet : ℕ → ℕ → ℕ) (P : Picture n) (σ : ℕ → ℕ) (fs gs : List (Fact ℕ)) →
    ((f : Fact ℕ) → Memᴰ f fs → Memᴰ f gs) → All meet P σ gs → All meet P σ fs
all_within meet P σ [] gs within a = tt
all_within meet P σ (f ∷ fs) gs within a =
    (all_member meet P σ (within f (Memᴰ.head refl)) a, all_within meet P σ fs gs (λ g m. within g (Memᴰ.tail m)) a)

module _ {n v : ℕ} {S : Form} (w : Well n v S) {root : ℕ} (tree : TreeFrom v S root) where
  ends : Inside v S
  ends = well_inside w tree.apart

  from_ranged : (depth j : ℕ) → j < v → Ranged n v (term_from S depth j)
  unfolding term_from
  from_ranged zero j h = (h, kind_below n (S.kind j) (w.kind_in j))
  from_ranged (suc depth) j h =
      let term_of : ℕ → Term = λ c. term_from S depth c in
      with_ranged n v j (kind_written (S.kind j)) (items S term_of j 0 16) h (kind_below n (S.kind j) (w.kind_in j))
      (each_item S term_of j (Ranged n v) (λ l low known. from_ranged depth (S.link j l) (ends j l h low known)) 0 16 (omega arith))

  -- nothing is cut where every walk is short
  from_fits : n ≤ 64 → v ≤ 64 → (depth j : ℕ) → j < v → Within S depth j → Fits (term_from S depth j) depth
  unfolding term_from
  from_fits few_kinds few zero j h short = absurd (omega (arith, short j [] refl))
  from_fits few_kinds few (suc depth) j h short =
      let term_of : ℕ → Term = λ c. term_from S depth c in
      with_fits j (kind_written (S.kind j)) (items S term_of j 0 16) depth (omega arith) (kind_short (S.kind j) (omega (arith, w.kind_in j)))
      (each_item S term_of j (λ t. Fits t depth)
      (λ l low known. from_fits few_kinds few depth (S.link j l) (ends j l h low known) (within_next S j l low known short))
      0 16 (omega arith))

  from_whole : (depth deeper j : ℕ) → depth ≤ deeper → Within S depth j → term_from S deeper j ≡ term_from S depth j
  unfolding term_from
  from_whole zero deeper j h short = absurd (omega (arith, short j [] refl))
  from_whole (suc depth) zero j h short = absurd (omega arith)
  from_whole (suc depth) (suc deeper) j h short =
      ap (term_with j (kind_written (S.kind j)))
      (items_same S (λ c. term_from S deeper c) (λ c. term_from S depth c) j
      (λ l low known. from_whole depth deeper (S.link j l) (omega arith) (within_next S j l low known short)) 0 16 (omega arith))

  module _ (inside : root < v) where
    abbrev tree_term : Term
    tree_term = term_from S deepest root

    -- every fact that the form says is in its term
    says_reached : (f : Fact ℕ) → Says S f → Concerned v S (subject f)
    says_reached (has_kind a s) says = kind_known says.0
    says_reached (same a b) says = absurd says
    says_reached (leads a l c) says = link_known l says.0 says.1

    says_in_term : (f : Fact ℕ) → subject f < v → Says S f → Memᴰ f (term_facts tree_term)
    says_in_term f h says =
        by_cases (ℕ_discrete (subject f) root)
        (λ e. in_term S f deepest root [] (omega arith) (sym e) says)
        (λ d. let o = tree.reached (subject f) h d (says_reached f says) in in_term S f deepest root o.walk o.short o.leads says)

    -- the facts of the term are those of the form, each of them once
    term→form : (f : Fact ℕ) → Memᴰ f (term_facts tree_term) → Memᴰ f (facts_of v S)
    term→form f m =
        let r = term_from_lem S deepest root m in
        let h = walk_inside S ends r.walk root (subject f) inside r.there in
        form_member S f 0 v (tree.apart (subject f) h) (omega arith) (omega arith) r.says

    form→term : (f : Fact ℕ) → Memᴰ f (facts_of v S) → Memᴰ f (term_facts tree_term)
    form→term f m = let r = form_cases S 0 v (λ i from below. tree.apart i (omega arith)) m in says_in_term f (omega (arith, r.0)) r.1

    -- the same pictures and placings satisfy them
    pub tree_means : {k : ℕ} (meet : ℕ → ℕ → ℕ) (P : Picture k) (σ : ℕ → ℕ) → All meet P σ (term_facts tree_term) ↔ All meet P σ (facts_of v S)
    tree_means meet P σ =
        (all_within meet P σ (facts_of v S) (term_facts tree_term) form→term, all_within meet P σ (term_facts tree_term) (facts_of v S) term→form)

    pub tree_ranged : Ranged n v tree_term
    tree_ranged = from_ranged deepest root inside

    pub tree_few : v ≤ 64 → length (term_facts tree_term) ≤ 1088
    tree_few few =
        omega (
          arith,
          no_longer (term_facts tree_term) (facts_of v S) (term_distinct S deepest root (only_walk S ends inside tree)) term→form,
          taken_few v S few,
          length-map (facts_of v S) (rename rig_joint),
        )

    -- the term is at most 16 terms deep, and nothing is cut there
    pub tree_fits : n ≤ 64 → v ≤ 64 → Fits tree_term deepest
    tree_fits few_kinds few = from_fits few_kinds few deepest root inside (short_walk S ends inside tree)

    pub tree_whole : (deeper : ℕ) → deepest ≤ deeper → term_from S deeper root ≡ tree_term
    tree_whole deeper h = from_whole deepest deeper root h (short_walk S ends inside tree)

    -- kinds but 1 are written, links rise
    pub tree_rises : Rising tree_term
    tree_rises = from_rises S deepest root
