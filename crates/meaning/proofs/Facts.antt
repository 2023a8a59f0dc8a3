-- Lists of facts: taken apart, put together, and with their joints renamed. The facts of a form hold exactly when what they say joint by
-- joint does: read along the list, row by row.
-- Assumes nothing.
use mathlib.Core.Path.{◌≡◌, refl, sym, ap}
use mathlib.Core.Logic.{◌↔◌, ◌≢◌, by_cases}
use mathlib.Core.Bool.{Bool, true, false, cond}
use mathlib.Core.List.{List, [], ◌∷◌, ◌++◌, map, Memᴰ}
use Prim.Native.Nat.{ℕ, zero, suc, ◌+◌, ◌<◌, ◌≤◌}
use native.Mathlib.Omega.{arith}
use native.Mathlib.Decide.{ℕ_discrete}
use lib.Dec.{eqb}
use borrow.Author.Tests.{eqb-true, eqb-false, eq-eqb, ne_eqb}
use Rattle.kinds.specs.Kinds.{Under}
use Rattle.kinds.specs.Laws.{Lawful}
use Rattle.kinds.proofs.Order.{under_any}
use Rattle.meaning.specs.declared.RigJoint.{RigJoint}
use Rattle.meaning.specs.Picture.{Picture, Fact, Holds, All, rename}
use Rattle.meaning.specs.Picture.Fact.{has_kind, same, leads}
use Rattle.meaning.specs.Form.{Form, unknown, links_from, facts_at, facts_from, facts_of, rig_joint, taken_facts}
use Rattle.meaning.specs.Solving.{Models, AllInRange}

pub in_range_append : (n v : ℕ) (fs gs : List (Fact ℕ)) → AllInRange n v fs → AllInRange n v gs → AllInRange n v (fs ++ gs)
in_range_append n v [] gs a b = b
in_range_append n v (f ∷ fs) gs a b = (a.0, in_range_append n v fs gs a.1 b)

module _ {n : ℕ} {J : Type 0} (meet : ℕ → ℕ → ℕ) (P : Picture n) (σ : J → ℕ) where
  pub all_append : (fs gs : List (Fact J)) → All meet P σ fs → All meet P σ gs → All meet P σ (fs ++ gs)
  all_append [] gs a b = b
  all_append (f ∷ fs) gs a b = (a.0, all_append fs gs a.1 b)

  pub all_left : (fs gs : List (Fact J)) → All meet P σ (fs ++ gs) → All meet P σ fs
  all_left [] gs a = tt
  all_left (f ∷ fs) gs a = (a.0, all_left fs gs a.1)

  pub all_right : (fs gs : List (Fact J)) → All meet P σ (fs ++ gs) → All meet P σ gs
  all_right [] gs a = a
  all_right (f ∷ fs) gs a = all_right fs gs a.1

  pub all_member : {f : Fact J} {fs : List (Fact J)} → Memᴰ f fs → All meet P σ fs → Holds meet P σ f
  all_member (Memᴰ.head e) a = rw e a.0
  all_member (Memᴰ.tail m) a = all_member m a.1

  -- a list chosen by a test: to make it, and to use it
  all_cond : (b : Bool) (fs gs : List (Fact J)) → (b ≡ true → All meet P σ fs) → (b ≡ false → All meet P σ gs) → All meet P σ (cond b fs gs)
  all_cond true fs gs f g = f refl
  all_cond false fs gs f g = g refl

  use_true : (b : Bool) (fs gs : List (Fact J)) → b ≡ true → All meet P σ (cond b fs gs) → All meet P σ fs
  use_true b fs gs e a = rw e at a

  use_false : (b : Bool) (fs gs : List (Fact J)) → b ≡ false → All meet P σ (cond b fs gs) → All meet P σ gs
  use_false b fs gs e a = rw e at a

  -- what stands behind a first fact that a test may leave out
  use_rest : (b : Bool) (f : Fact J) (fs : List (Fact J)) → All meet P σ (cond b fs (f ∷ fs)) → All meet P σ fs
  use_rest true f fs a = a
  use_rest false f fs a = a.1

-- a first part stays as it is
pub keep : {A B C : Type 0} → (B ↔ C) → (A × B) ↔ (A × C)
keep e = (λ p. (p.0, e.0 p.1), λ p. (p.0, e.1 p.1))

-- renamed facts say at a placing what the facts say at the placing of the renamed joints
pub all_rename : {n : ℕ} {J K : Type 0} (meet : ℕ → ℕ → ℕ) (P : Picture n) (f : J → K) (σ : K → ℕ) (fs : List (Fact J)) →
    All meet P σ (map (rename f) fs) ↔ All meet P (λ j. σ (f j)) fs
all_rename meet P f σ [] = (λ a. a, λ a. a)
all_rename meet P f σ (has_kind a s ∷ fs) = keep (all_rename meet P f σ fs)
all_rename meet P f σ (same a b ∷ fs) = keep (all_rename meet P f σ fs)
all_rename meet P f σ (leads a l c ∷ fs) = keep (all_rename meet P f σ fs)

module _ {n : ℕ} (meet : ℕ → ℕ → ℕ) (P : Picture n) (σ : ℕ → ℕ) (S : Form) where
  module _ (j : ℕ) where
    -- the known links of j, from l on, of the next count
    Row : ℕ → ℕ → Type 0
    Row l count = (i : ℕ) → l ≤ i → i < l + count → S.link j i ≢ unknown → P.link (σ j) i ≡ σ (S.link j i)

    row_make : (l count : ℕ) → Row l count → All meet P σ (links_from S j l count)
    unfolding links_from Row
    row_make l zero r = tt
    row_make l (suc count) r =
        let rest : All meet P σ (links_from S j (suc l) count) =
        row_make (suc l) count (λ i from below known. r i (omega arith) (omega arith) known) in
        all_cond meet P σ (eqb (S.link j l) unknown) _ _ (λ _. rest)
        (λ e. (r l (omega arith) (omega arith) (eqb-false _ _ e), rest))

    row_use : (l count : ℕ) → All meet P σ (links_from S j l count) → Row l count
    unfolding links_from Row
    row_use l zero a i from below known = absurd (omega arith)
    row_use l (suc count) a i from below known =
        by_cases (ℕ_discrete i l)
        (λ e. rw e (use_false meet P σ (eqb (S.link j l) unknown) _ _ (ne_eqb _ _ (rw e at known)) a).0)
        (λ d. row_use (suc l) count (use_rest meet P σ (eqb (S.link j l) unknown) _ _ a) i (omega arith) (omega arith) known)

    -- what the facts of one joint say
    record SaidAt : Type 0 where
      one : S.class j ≢ j → σ j ≡ σ (S.class j)
      kind : S.class j ≡ j → Under meet (P.kind (σ j)) (S.kind j)
      link : S.class j ≡ j → (l : ℕ) → l < 16 → S.link j l ≢ unknown → P.link (σ j) l ≡ σ (S.link j l)

    said_make : SaidAt → All meet P σ (facts_at S j)
    unfolding facts_at Row
    said_make s =
        all_cond meet P σ (eqb (S.class j) j) _ _
        (λ e.
        let smallest : S.class j ≡ j = eqb-true _ _ e in
        let row : All meet P σ (links_from S j 0 16) = row_make 0 16 (λ i _ below known. s.link smallest i (omega arith) known) in
        all_cond meet P σ (eqb (S.kind j) 1) _ _ (λ _. row) (λ _. (s.kind smallest, row)))
        (λ e. (s.one (eqb-false _ _ e), tt))

    -- kind 1 is not written: that every kind is under it stands in for the fact
    said_use : Under meet (P.kind (σ j)) 1 → All meet P σ (facts_at S j) → SaidAt
    unfolding facts_at Row
    said_use any a =
        record {
          one = λ d. (use_false meet P σ (eqb (S.class j) j) _ _ (ne_eqb _ _ d) a).0;
          kind = λ e.
              by_cases (ℕ_discrete (S.kind j) 1)
              (λ q. rw q any)
              (λ d. (use_false meet P σ (eqb (S.kind j) 1) _ _ (ne_eqb _ _ d) (smallest e)).0);
          link = λ e l below.
              row_use 0 16 (use_rest meet P σ (eqb (S.kind j) 1) _ _ (smallest e)) l (omega arith) (omega arith);
        }
      where
        smallest : S.class j ≡ j → All meet P σ (cond (eqb (S.kind j) 1) (links_from S j 0 16) (has_kind j (S.kind j) ∷ links_from S j 0 16))
        smallest e = use_true meet P σ (eqb (S.class j) j) _ _ (eq-eqb _ _ e) a

  from_make : (j count : ℕ) → ((i : ℕ) → j ≤ i → i < j + count → SaidAt i) → All meet P σ (facts_from S j count)
  unfolding facts_from
  from_make j zero s = tt
  from_make j (suc count) s =
      all_append meet P σ (facts_at S j) (facts_from S (suc j) count)
      (said_make j (s j (omega arith) (omega arith)))
      (from_make (suc j) count (λ i from below. s i (omega arith) (omega arith)))

  module _ (any : (e : ℕ) → Under meet (P.kind e) 1) where
    from_use : (j count : ℕ) → All meet P σ (facts_from S j count) → (i : ℕ) → j ≤ i → i < j + count → SaidAt i
    unfolding facts_from
    from_use j zero a i from below = absurd (omega arith)
    from_use j (suc count) a i from below =
        by_cases (ℕ_discrete i j)
        (λ e. rw e (said_use j (any (σ j)) (all_left meet P σ (facts_at S j) (facts_from S (suc j) count) a)))
        (λ d. from_use (suc j) count (all_right meet P σ (facts_at S j) (facts_from S (suc j) count) a) i (omega arith) (omega arith))

-- a placing of rig joints, by their numbers
abbrev pub by_number : (RigJoint → ℕ) → ℕ → ℕ
by_number σ j = σ (rig_joint j)

-- to have the models of a form is to satisfy its facts
module _ {n : ℕ} {meet : ℕ → ℕ → ℕ} (L : Lawful n meet) (two : 1 < n) (v : ℕ) (S : Form) (P : Picture n) where
  pub models→facts : (σ : ℕ → ℕ) → Models meet v S P σ → All meet P σ (facts_of v S)
  models→facts σ m =
      from_make meet P σ S 0 v
      (λ i _ below.
      let h : i < v = omega arith in
      record { one = λ _. m.one i h; kind = λ e. m.kind i (h, e); link = λ e l. m.link i l (h, e) })

  pub facts→models : (σ : ℕ → ℕ) → All meet P σ (facts_of v S) → Models meet v S P σ
  facts→models σ a =
      record {
        one = λ j h. by_cases (ℕ_discrete (S.class j) j) (λ e. ap σ (sym e)) (λ d. (said j h).one d);
        kind = λ j h. (said j h.0).kind h.1;
        link = λ j l h. (said j h.0).link h.1 l;
      }
    where
      said : (i : ℕ) → i < v → SaidAt meet P σ S i
      said i h = from_use meet P σ S (λ e. under_any L _ two (P.in_range e)) 0 v a i (omega arith) (omega arith)

  -- the same for the taken facts, which are those of the form on rig joints
  module _ (σ : RigJoint → ℕ) where
    pub models→taken : Models meet v S P (by_number σ) → All meet P σ (taken_facts v S)
    models→taken m = (all_rename meet P rig_joint σ (facts_of v S)).1 (models→facts (by_number σ) m)

    pub taken→models : All meet P σ (taken_facts v S) → Models meet v S P (by_number σ)
    taken→models a = facts→models (by_number σ) ((all_rename meet P rig_joint σ (facts_of v S)).0 a)
