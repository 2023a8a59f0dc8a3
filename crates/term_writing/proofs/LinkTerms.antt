-- The terms at the links of a joint: what holds of each known link's term holds of the list, and the facts of a term are its kind fact, then
-- of each known link its own fact and those of its term.
-- Assumes nothing.
use mathlib.Core.Path.{◌≡◌, refl, sym, ◌∙◌, ap}
use mathlib.Core.Logic.{◌≢◌, ◌⊎◌, inl, inr, ⊎_elim, by_cases}
use mathlib.Core.List.Memᴰ
use mathlib.Core.List.{List, [], ◌∷◌, ◌++◌, append-nil, Memᴰ}
use Prim.Native.Nat.{ℕ, zero, suc, ◌+◌, ◌<◌, ◌≤◌}
use native.Mathlib.Omega.{arith}
use native.Mathlib.Decide.{ℕ_discrete}
use borrow.Author.Tests.{eq-eqb, ne_eqb}
use Rattle.meaning.specs.Picture.{Fact}
use Rattle.meaning.specs.Picture.Fact.{has_kind, leads}
use Rattle.meaning.specs.Form.{Form, unknown}
use Rattle.terms.specs.Term.{Written, Term, Arguments}
use Rattle.terms.specs.Term.Written.{unwritten, written}
use Rattle.terms.specs.Term.Term.{bare, bracketed}
use Rattle.terms.specs.Term.Arguments.{one, more}
use Rattle.terms.specs.Language.{Short, KindShort, Fits, ArgumentsFit}
use Rattle.terms.specs.Facts.{joint_of, kind_facts, term_facts, argument_facts}
use Rattle.term_writing.specs.Tree.{kind_written, listed, term_with, link_terms, term_from}
use Rattle.term_writing.specs.Rising.{KindBut1, Rising, LinksRise}

-- links with their terms, as they stand in brackets
abbrev pub Items : Type 0
Items = List (ℕ × Term)

with_joint : (j : ℕ) (s : Written) (items : Items) → joint_of (term_with j s items) ≡ j
with_joint j s [] = refl
with_joint j s (a ∷ items) = refl

pub from_joint : (S : Form) (depth j : ℕ) → joint_of (term_from S depth j) ≡ j
unfolding term_from
from_joint S zero j = refl
from_joint S (suc depth) j = with_joint j (kind_written (S.kind j)) (link_terms S (λ c. term_from S depth c) j 0 16)

-- the facts of a term
abbrev pub item_facts : ℕ → Items → List (Fact ℕ)
item_facts j [] = []
item_facts j (a ∷ items) = leads j a.0 (joint_of a.1) ∷ (term_facts a.1 ++ item_facts j items)

listed_facts : (j l : ℕ) (t : Term) (items : Items) → argument_facts (listed l t items) j ≡ leads j l (joint_of t) ∷ (term_facts t ++ item_facts j items)
unfolding term_facts
listed_facts j l t [] = ap (λ (x : List (Fact ℕ)). leads j l (joint_of t) ∷ x) (sym (append-nil (term_facts t)))
listed_facts j l t (a ∷ items) = ap (λ (x : List (Fact ℕ)). leads j l (joint_of t) ∷ (term_facts t ++ x)) (listed_facts j a.0 a.1 items)

with_facts : (j : ℕ) (s : Written) (items : Items) → term_facts (term_with j s items) ≡ kind_facts j s ++ item_facts j items
unfolding term_facts
with_facts j s [] = sym (append-nil (kind_facts j s))
with_facts j s (a ∷ items) = ap (λ (x : List (Fact ℕ)). kind_facts j s ++ x) (listed_facts j a.0 a.1 items)

-- links are below 16, and something holds of each term
abbrev pub EachItem : (Term → Type 0) → Items → Type 0
EachItem Q [] = Unit {0}
EachItem Q (a ∷ items) = (a.0 < 16) × Q a.1 × EachItem Q items

-- a term fits where its items do
abbrev pub ItemsFit : Items → ℕ → Type 0
ItemsFit items depth = EachItem (λ t. Fits t depth) items

listed_fit : (l : ℕ) (t : Term) (items : Items) (depth : ℕ) → l < 16 → Fits t depth → ItemsFit items depth → ArgumentsFit (listed l t items) depth
listed_fit l t [] depth h f g = (omega arith, f)
listed_fit l t (a ∷ items) depth h f g = (omega arith, f, listed_fit a.0 a.1 items depth g.0 g.1 g.2)

pub with_fits :
    (j : ℕ) (s : Written) (items : Items) (depth : ℕ) → Short j → KindShort s → ItemsFit items depth → Fits (term_with j s items) (suc depth)
with_fits j s [] depth h k f = (h, k)
with_fits j s (a ∷ items) depth h k f = (h, k, listed_fit a.0 a.1 items depth f.0 f.1 f.2)

-- and rises where they do
abbrev ItemsRise : Items → ℕ → Type 0
ItemsRise [] low = Unit {0}
ItemsRise (a ∷ items) low = (low ≤ a.0) × Rising a.1 × ItemsRise items (suc a.0)

listed_rise : (l : ℕ) (t : Term) (items : Items) (low : ℕ) → low ≤ l → Rising t → ItemsRise items (suc l) → LinksRise (listed l t items) low
listed_rise l t [] low h r g = (h, r)
listed_rise l t (a ∷ items) low h r g = (h, r, listed_rise a.0 a.1 items (suc l) g.0 g.1 g.2)

with_rises : (j : ℕ) (s : Written) (items : Items) → KindBut1 s → ItemsRise items 0 → Rising (term_with j s items)
with_rises j s [] k r = k
with_rises j s (a ∷ items) k r = (k, listed_rise a.0 a.1 items 0 r.0 r.1 r.2)

weaker_rise : (items : Items) (low l : ℕ) → low ≤ l → ItemsRise items l → ItemsRise items low
weaker_rise [] low l h r = tt
weaker_rise (a ∷ items) low l h r = (omega (arith, r.0), r.1, r.2)

-- the numbers of a term are in range: joints below v, kinds below n, links below 16
abbrev pub KindBelow : ℕ → Written → Type 0
KindBelow n unwritten = Unit {0}
KindBelow n (written s) = s < n

module _ (n v : ℕ) where
  abbrev mutual
    pub Ranged : Term → Type 0
    Ranged (bare j s) = (j < v) × KindBelow n s
    Ranged (bracketed j s args) = (j < v) × KindBelow n s × ArgumentsRanged args

    pub ArgumentsRanged : Arguments → Type 0
    ArgumentsRanged (one l t) = (l < 16) × Ranged t
    ArgumentsRanged (more l t args) = (l < 16) × Ranged t × ArgumentsRanged args

  abbrev pub ItemsRanged : Items → Type 0
  ItemsRanged items = EachItem Ranged items

  listed_ranged : (l : ℕ) (t : Term) (items : Items) → l < 16 → Ranged t → ItemsRanged items → ArgumentsRanged (listed l t items)
  listed_ranged l t [] h r g = (h, r)
  listed_ranged l t (a ∷ items) h r g = (h, r, listed_ranged a.0 a.1 items g.0 g.1 g.2)

  pub with_ranged : (j : ℕ) (s : Written) (items : Items) → j < v → KindBelow n s → ItemsRanged items → Ranged (term_with j s items)
  with_ranged j s [] h k r = (h, k)
  with_ranged j s (a ∷ items) h k r = (h, k, listed_ranged a.0 a.1 items r.0 r.1 r.2)

-- the items of a joint, from link l on, of the next count
module _ (S : Form) (term_of : ℕ → Term) (j : ℕ) where
  abbrev pub items : ℕ → ℕ → Items
  items l count = link_terms S term_of j l count

  module _ (l count : ℕ) where
    pub unknown_next : S.link j l ≡ unknown → items l (suc count) ≡ items (suc l) count
    unfolding link_terms
    unknown_next e = rw (eq-eqb _ _ e)

    known_next : S.link j l ≢ unknown → items l (suc count) ≡ (l, term_of (S.link j l)) ∷ items (suc l) count
    unfolding link_terms
    known_next d = rw (ne_eqb _ _ d)

  -- what holds of the term at each known link
  abbrev pub AtLinks : (Term → Type 0) → Type 0
  AtLinks Q = (l : ℕ) → l < 16 → S.link j l ≢ unknown → Q (term_of (S.link j l))

  pub each_item : (Q : Term → Type 0) → AtLinks Q → (l count : ℕ) → l + count ≤ 16 → EachItem Q (items l count)
  unfolding link_terms
  each_item Q f l zero h = tt
  each_item Q f l (suc count) h =
      let rest = each_item Q f (suc l) count (omega arith) in
      by_cases (ℕ_discrete (S.link j l) unknown)
      (λ e. rw (unknown_next l count e) rest)
      (λ d. rw (known_next l count d) (omega arith, f l (omega arith) d, rest))

  items_rise : ((c : ℕ) → Rising (term_of c)) → (l count : ℕ) → ItemsRise (items l count) l
  unfolding link_terms
  items_rise r l zero = tt
  items_rise r l (suc count) =
      let rest = items_rise r (suc l) count in
      by_cases (ℕ_discrete (S.link j l) unknown)
      (λ e. rw (unknown_next l count e) (weaker_rise (items (suc l) count) l (suc l) (omega arith) rest))
      (λ d. rw (known_next l count d) (omega arith, r (S.link j l), rest))

  -- a fact of the items from link `low` on: that of a known link, or one of its term
  pub data ItemFact (low : ℕ) (f : Fact ℕ) : Type 0 where
    own : (l : ℕ) → low ≤ l → l < 16 → S.link j l ≢ unknown → f ≡ leads j l (S.link j l) → ItemFact low f
    inner : (l : ℕ) → low ≤ l → l < 16 → S.link j l ≢ unknown → Memᴰ f (term_facts (term_of (S.link j l))) → ItemFact low f

  from_next : {f : Fact ℕ} (l : ℕ) → ItemFact (suc l) f → ItemFact l f
  from_next l (own i from below known e) = own i (omega arith) below known e
  from_next l (inner i from below known m) = inner i (omega arith) below known m

  module _ (joint : (c : ℕ) → joint_of (term_of c) ≡ c) where
    module _ (l count : ℕ) (known : S.link j l ≢ unknown) where
      pub next_facts :
          item_facts j (items l (suc count))
          ≡ leads j l (S.link j l) ∷ (term_facts (term_of (S.link j l)) ++ item_facts j (items (suc l) count))
      next_facts =
          ap (item_facts j) (known_next l count known)
          ∙ ap (λ (c : ℕ). leads j l c ∷ (term_facts (term_of (S.link j l)) ++ item_facts j (items (suc l) count))) (joint (S.link j l))

    pub item_cases : {f : Fact ℕ} (l count : ℕ) → l + count ≤ 16 → Memᴰ f (item_facts j (items l count)) → ItemFact l f
    unfolding link_terms
    item_cases l zero h m = absurd (Memᴰ.not-nil m)
    item_cases l (suc count) h m =
        by_cases (ℕ_discrete (S.link j l) unknown)
        (λ e. from_next l (item_cases (suc l) count (omega arith) (rw (unknown_next l count e) at m)))
        (λ d.
        ⊎_elim (λ e. own l (omega arith) (omega arith) d e)
        (λ k.
        ⊎_elim (λ i. inner l (omega arith) (omega arith) d i) (λ i. from_next l (item_cases (suc l) count (omega arith) i))
        (Memᴰ.append_cases (term_facts (term_of (S.link j l))) k))
        (Memᴰ.cases_cons (rw (next_facts l count d) at m)))

    -- the facts of a known link's item stand in front of those behind it
    own_member : (l count : ℕ) → S.link j l ≢ unknown → Memᴰ (leads j l (S.link j l)) (item_facts j (items l (suc count)))
    own_member l count known = rw (next_facts l count known) (Memᴰ.head refl)

    inner_member : {f : Fact ℕ} (l count : ℕ) → S.link j l ≢ unknown → Memᴰ f (term_facts (term_of (S.link j l))) →
        Memᴰ f (item_facts j (items l (suc count)))
    inner_member l count known m =
        rw (next_facts l count known) (Memᴰ.tail (Memᴰ.append_left (item_facts j (items (suc l) count)) m))

    later_member : {f : Fact ℕ} (l count : ℕ) → Memᴰ f (item_facts j (items (suc l) count)) → Memᴰ f (item_facts j (items l (suc count)))
    later_member l count m =
        by_cases (ℕ_discrete (S.link j l) unknown)
        (λ e. rw (unknown_next l count e) m)
        (λ d. rw (next_facts l count d) (Memᴰ.tail (Memᴰ.append_right (term_facts (term_of (S.link j l))) m)))

    item_member : {f : Fact ℕ} (l count : ℕ) → l + count ≡ 16 → ItemFact l f → Memᴰ f (item_facts j (items l count))
    item_member l zero h (own i from below known e) = absurd (omega arith)
    item_member l zero h (inner i from below known m) = absurd (omega arith)
    item_member l (suc count) h (own i from below known e) =
        by_cases (ℕ_discrete i l)
        (λ q. Memᴰ.cast (e ∙ ap (λ (k : ℕ). leads j k (S.link j k)) q) (own_member l count (rw q at known)))
        (λ d. later_member l count (item_member (suc l) count (omega arith) (own i (omega arith) below known e)))
    item_member l (suc count) h (inner i from below known m) =
        by_cases (ℕ_discrete i l)
        (λ q. inner_member l count (rw q at known) (rw q at m))
        (λ d. later_member l count (item_member (suc l) count (omega arith) (inner i (omega arith) below known m)))

-- the kind fact of a joint
module _ (S : Form) (j : ℕ) where
  abbrev pub kind_facts_at : List (Fact ℕ)
  kind_facts_at = kind_facts j (kind_written (S.kind j))

  pub kind_unwritten : S.kind j ≡ 1 → kind_facts_at ≡ []
  kind_unwritten e = rw (eq-eqb _ _ e)

  pub kind_written_lem : S.kind j ≢ 1 → kind_facts_at ≡ has_kind j (S.kind j) ∷ []
  kind_written_lem d = rw (ne_eqb _ _ d)

  abbrev pub KindFact : Fact ℕ → Type 0
  KindFact f = (S.kind j ≢ 1) × (f ≡ has_kind j (S.kind j))

  kind_cases : {f : Fact ℕ} → Memᴰ f kind_facts_at → KindFact f
  kind_cases m =
      by_cases (ℕ_discrete (S.kind j) 1)
      (λ e. absurd (Memᴰ.not-nil (rw (kind_unwritten e) at m)))
      (λ d. (d, Memᴰ.eq_of_singleton (rw (kind_written_lem d) at m)))

  -- the facts of the term of a joint
  pub cut_cases : {f : Fact ℕ} → Memᴰ f (term_facts (term_from S 0 j)) → KindFact f
  unfolding term_from term_facts
  cut_cases m = kind_cases m

  module _ (depth : ℕ) where
    abbrev below : ℕ → Term
    below c = term_from S depth c

    pub from_facts : term_facts (term_from S (suc depth) j) ≡ kind_facts_at ++ item_facts j (items S below j 0 16)
    unfolding term_from
    from_facts = with_facts j (kind_written (S.kind j)) (items S below j 0 16)

    pub from_cases : {f : Fact ℕ} → Memᴰ f (term_facts (term_from S (suc depth) j)) → KindFact f ⊎ ItemFact S below j 0 f
    from_cases m =
        ⊎_elim (λ k. inl (kind_cases k)) (λ i. inr (item_cases S below j (from_joint S depth) 0 16 (omega arith) i))
        (Memᴰ.append_cases kind_facts_at (rw from_facts at m))

    pub kind_member : S.kind j ≢ 1 → Memᴰ (has_kind j (S.kind j)) (term_facts (term_from S (suc depth) j))
    kind_member d = rw (from_facts, kind_written_lem d) (Memᴰ.head refl)

    pub link_member : {f : Fact ℕ} → ItemFact S below j 0 f → Memᴰ f (term_facts (term_from S (suc depth) j))
    link_member i = rw from_facts (Memᴰ.append_right kind_facts_at (item_member S below j (from_joint S depth) 0 16 refl i))

-- what holds of a kind as it is written: it is left out, or it is not 1
pub of_kind_written : (P : Written → Type 0) (s : ℕ) → P unwritten → (s ≢ 1 → P (written s)) → P (kind_written s)
of_kind_written P s left_out said =
    by_cases (ℕ_discrete s 1) (λ e. rw (eq-eqb _ _ e) left_out) (λ d. rw (ne_eqb _ _ d) (said d))

-- kinds but 1 are written, links rise
kind_but_1 : (s : ℕ) → KindBut1 (kind_written s)
kind_but_1 s = of_kind_written KindBut1 s tt (λ d. d)

pub from_rises : (S : Form) (depth j : ℕ) → Rising (term_from S depth j)
unfolding term_from
from_rises S zero j = kind_but_1 (S.kind j)
from_rises S (suc depth) j =
    let term_of : ℕ → Term = λ c. term_from S depth c in
    with_rises j (kind_written (S.kind j)) (items S term_of j 0 16) (kind_but_1 (S.kind j)) (items_rise S term_of j (from_rises S depth) 0 16)

-- the items are the same where the terms at the known links are
pub items_same : (S : Form) (f g : ℕ → Term) (j : ℕ) → ((l : ℕ) → l < 16 → S.link j l ≢ unknown → f (S.link j l) ≡ g (S.link j l)) →
    (l count : ℕ) → l + count ≤ 16 → items S f j l count ≡ items S g j l count
unfolding link_terms
items_same S f g j same l zero h = refl
items_same S f g j same l (suc count) h =
    let rest = items_same S f g j same (suc l) count (omega arith) in
    by_cases (ℕ_discrete (S.link j l) unknown)
    (λ e. unknown_next S f j l count e ∙ rest ∙ sym (unknown_next S g j l count e))
    (λ d.
    known_next S f j l count d
    ∙ cc (same l (omega arith) d, rest)
    ∙ sym (known_next S g j l count d))
