-- How the visit of a joint is made of the visits through its links, one after the other: the walks through one more link are new, end where
-- no earlier one does, and what fails there fails for the joint. Marking a joint leaves one fewer that is not marked.
-- Assumes nothing.
use mathlib.Core.Path.{◌≡◌, refl, sym, ap, subst, ◌∙◌}
use mathlib.Core.Logic.{◌≢◌, ◌⊎◌, inl, inr, ⊎_elim, by_cases}
use mathlib.Core.Bool.{Bool, true, false, cond, true≢false}
use mathlib.Core.List.{List, [], ◌∷◌, cons≢nil}
use Prim.Native.Nat.{ℕ, zero, suc, ◌+◌, ◌<◌, ◌≤◌}
use native.Mathlib.Omega.{arith}
use native.Mathlib.Decide.{dec_lt, ℕ_discrete}
use lib.ListN.{length, get_or, set}
use lib.Seq.{get_or-set_same, get_or-set_other}
use Rattle.meaning.specs.Form.{Form, unknown}
use Rattle.term_writing.specs.Tree.{Walk}
use Rattle.term_writing.specs.Visiting.{Marked, Unmarked, unmarked, Through, Onward, Visited, Failed}
use Rattle.term_writing.specs.Visiting.Failed.{too_deep, twice, met}

-- a joint that is marked newly
module _ (seen : List Bool) (j : ℕ) where
  marked_now : j < length seen → {m : ℕ} → m ≡ j → Marked (set seen j true) m
  marked_now h e = ap (λ (i : ℕ). get_or (set seen j true) i false) e ∙ get_or-set_same seen j true false h

  stays : {m : ℕ} → (m ≡ j → ⊥) → get_or (set seen j true) m false ≡ get_or seen m false
  stays {m} d = get_or-set_other seen j m true false d

  marked_still : j < length seen → (m : ℕ) → Marked seen m → Marked (set seen j true) m
  marked_still h m k = by_cases (ℕ_discrete m j) (λ e. marked_now h e) (λ d. stays d ∙ k)

  marked_before : (m : ℕ) → Marked (set seen j true) m → (m ≡ j) ⊎ Marked seen m
  marked_before m k = by_cases (ℕ_discrete m j) (λ e. inl e) (λ d. inr (sym (stays d) ∙ k))

-- no joint is both
pub not_both : (seen : List Bool) (m : ℕ) → Marked seen m → Unmarked seen m → ⊥
not_both seen m k e = true≢false (sym k ∙ e)

pub one_marked : (seen : List Bool) (j : ℕ) → j < length seen → Unmarked seen j → unmarked seen ≡ suc (unmarked (set seen j true))
unfolding unmarked
one_marked [] j h e = absurd (omega arith)
one_marked (x ∷ xs) zero h e = rw e
one_marked (x ∷ xs) (suc j) h e = counted x (one_marked xs j (omega arith) e)
  where
    counted : (b : Bool) {m n : ℕ} → m ≡ suc n → cond b m (suc m) ≡ suc (cond b n (suc n))
    counted true e = e
    counted false e = ap suc e

-- where no walk leads anywhere there is nothing to visit
nowhere_visited :
    {Leads : List ℕ → ℕ → Type 0} (n : ℕ) (seen : List Bool) → ((w : List ℕ) (m : ℕ) → Leads w m → ⊥) → Visited Leads n seen seen
nowhere_visited n seen none =
    record {
      kept = λ m h. h;
      marks = λ w m t. absurd (none w m t);
      new = λ m h. inl h;
      once = λ w u m p q. absurd (none w m p);
      short = λ w m t. absurd (none w m t);
      fresh = λ w m t s. none w m t;
    }

module _ (S : Form) (j : ℕ) where
  -- the walks through all links are those of one link and more
  walk_of : (w : List ℕ) (m : ℕ) → Through S j 16 w m → Walk S j w m
  walk_of [] m t = absurd t
  walk_of (l ∷ ls) m t = t.1

  some_link : (w : List ℕ) (m : ℕ) → Through S j 16 w m → w ≢ []
  some_link [] m t e = absurd t
  some_link (l ∷ ls) m t e = cons≢nil e

  module _ (k : ℕ) where
    -- a walk that begins with a link below k, or with k, begins with one below any greater bound
    through_wider : (b : ℕ) (w : List ℕ) (m : ℕ) → k ≤ b → Through S j k w m → Through S j b w m
    through_wider b [] m h t = absurd t
    through_wider b (l ∷ ls) m h t = (omega (arith, t.0), t.1)

    through_next : (b : ℕ) (w : List ℕ) (m : ℕ) → k < b → k < 16 → Onward S (S.link j k) w m → Through S j b (k ∷ w) m
    through_next b w m below h o = (below, (h, o.0, o.1))

    -- a walk through link k at the latest goes through an earlier one or through k
    through_cases :
        (w : List ℕ) (m : ℕ) → Through S j (k + 1) w m →
        Through S j k w m ⊎ ((ls : List ℕ) × ((w ≡ k ∷ ls) × Onward S (S.link j k) ls m))
    through_cases [] m t = absurd t
    through_cases (l ∷ ls) m t =
        by_cases (dec_lt l k)
        (λ h. inl (h, t.1))
        (λ d.
        let e : l ≡ k = omega (arith, t.0) in
        inr (ls, (ap (λ (i : ℕ). i ∷ ls) e, subst (λ (i : ℕ). Onward S (S.link j i) ls m) e (t.1.1, t.1.2))))

    earlier : (w : List ℕ) (m : ℕ) → Through S j k w m → (ls : List ℕ) → w ≢ k ∷ ls
    earlier [] m t ls e = absurd t
    earlier (l ∷ others) m t ls e = let q : l ≡ k = cc in omega (arith, t.0)

    module _ {n : ℕ} {seen mid : List Bool} (small : k < 16) (before : Visited (Through S j k) (suc n) seen mid) where
      through_more : {after : List Bool} → Visited (Onward S (S.link j k)) n mid after → Visited (Through S j (k + 1)) (suc n) seen after
      through_more {after} here =
          record {
            kept = λ m h. here.kept m (before.kept m h);
            marks = λ w m t. ⊎_elim (λ o. here.kept m (before.marks w m o)) (λ x. here.marks x.0 m x.1.1) (through_cases w m t);
            new = λ m h.
                ⊎_elim
                (λ g. ⊎_elim (λ s. inl s) (λ x. inr (x.0, through_wider (k + 1) x.0 m (omega arith) x.1)) (before.new m g))
                (λ x. inr (k ∷ x.0, through_next (k + 1) x.0 m (omega arith) small x.1)) (here.new m h);
            once = λ w u m p q.
                ⊎_elim
                (λ o. ⊎_elim (λ r. before.once w u m o r) (λ y. absurd (here.fresh y.0 m y.1.1 (before.marks w m o))) (through_cases u m q))
                (λ x.
                ⊎_elim
                (λ r. absurd (here.fresh x.0 m x.1.1 (before.marks u m r)))
                (λ y. x.1.0 ∙ ap (λ (ls : List ℕ). k ∷ ls) (here.once x.0 y.0 m x.1.1 y.1.1) ∙ sym y.1.0)
                (through_cases u m q))
                (through_cases w m p);
            short = λ w m t.
                ⊎_elim (λ o. before.short w m o) (λ x. omega (arith, ap length x.1.0, here.short x.0 m x.1.1)) (through_cases w m t);
            fresh = λ w m t s.
                ⊎_elim (λ o. before.fresh w m o s) (λ x. here.fresh x.0 m x.1.1 (before.kept m s)) (through_cases w m t);
          }

      through_fails : Failed (Onward S (S.link j k)) n mid → Failed (Through S j 16) (suc n) seen
      through_fails (too_deep w m o h) = too_deep (k ∷ w) m (through_next 16 w m small small o) (omega arith)
      through_fails (twice w u m d o p) =
          twice (k ∷ w) (k ∷ u) m (λ e. d (cc)) (through_next 16 w m small small o) (through_next 16 u m small small p)
      through_fails (met w m o h) =
          ⊎_elim
          (λ s. met (k ∷ w) m (through_next 16 w m small small o) s)
          (λ x. twice x.0 (k ∷ w) m (earlier x.0 m x.1 w) (through_wider 16 x.0 m (omega arith) x.1) (through_next 16 w m small small o))
          (before.new m h)

      -- the same, of the joint that was read
      pub link_visited : {c : ℕ} {after : List Bool} → c ≡ S.link j k → Visited (Onward S c) n mid after → Visited (Through S j (k + 1)) (suc n) seen after
      link_visited {after = after} e v = through_more (subst (λ (i : ℕ). Visited (Onward S i) n mid after) e v)

      pub link_failed : {c : ℕ} → c ≡ S.link j k → Failed (Onward S c) n mid → Failed (Through S j 16) (suc n) seen
      link_failed e f = through_fails (subst (λ (i : ℕ). Failed (Onward S i) n mid) e f)

  -- before the first link
  pub none_visited : (n : ℕ) (seen : List Bool) → Visited (Through S j 0) n seen seen
  none_visited n seen = nowhere_visited n seen none
    where
      none : (w : List ℕ) (m : ℕ) → Through S j 0 w m → ⊥
      none [] m t = t
      none (l ∷ ls) m t = omega (arith, t.0)

  -- the joint itself is marked, then its links are gone through
  module _ {n : ℕ} (seen : List Bool) (inside : j < length seen) where
    pub joint_visited : {after : List Bool} → Unmarked seen j → Visited (Through S j 16) (suc n) (set seen j true) after → Visited (Walk S j) (suc n) seen after
    joint_visited {after} free v =
        record {
          kept = λ m h. v.kept m (marked_still seen j inside m h);
          marks = marks;
          new = λ m h.
              ⊎_elim
              (λ g. ⊎_elim (λ e. inr ([], sym e)) (λ s. inl s) (marked_before seen j m g))
              (λ x. inr (x.0, walk_of x.0 m x.1)) (v.new m h);
          once = once;
          short = short;
          fresh = fresh;
        }
      where
        own : {m : ℕ} → j ≡ m → Marked (set seen j true) m
        own e = marked_now seen j inside (sym e)

        marks : (w : List ℕ) (m : ℕ) → Walk S j w m → Marked after m
        marks [] m e = v.kept m (own e)
        marks (l ∷ ls) m t = v.marks (l ∷ ls) m (t.0, t)

        once : (w u : List ℕ) (m : ℕ) → Walk S j w m → Walk S j u m → w ≡ u
        once [] [] m p q = refl
        once [] (l ∷ ls) m p q = absurd (v.fresh (l ∷ ls) m (q.0, q) (own p))
        once (l ∷ ls) [] m p q = absurd (v.fresh (l ∷ ls) m (p.0, p) (own q))
        once (l ∷ ls) (i ∷ is) m p q = v.once (l ∷ ls) (i ∷ is) m (p.0, p) (q.0, q)

        short : (w : List ℕ) (m : ℕ) → Walk S j w m → length w < suc n
        short [] m t = omega arith
        short (l ∷ ls) m t = v.short (l ∷ ls) m (t.0, t)

        fresh : (w : List ℕ) (m : ℕ) → Walk S j w m → Marked seen m → ⊥
        fresh [] m e s = not_both seen m s (ap (λ (i : ℕ). get_or seen i false) (sym e) ∙ free)
        fresh (l ∷ ls) m t s = v.fresh (l ∷ ls) m (t.0, t) (marked_still seen j inside m s)

    pub joint_failed : Failed (Through S j 16) (suc n) (set seen j true) → Failed (Walk S j) (suc n) seen
    joint_failed (too_deep w m t h) = too_deep w m (walk_of w m t) h
    joint_failed (twice w u m d p q) = twice w u m d (walk_of w m p) (walk_of u m q)
    joint_failed (met w m t h) =
        ⊎_elim
        (λ e. twice w [] m (some_link w m t) (walk_of w m t) (sym e))
        (λ s. met w m (walk_of w m t) s)
        (marked_before seen j m h)

-- a link that is not known leads nowhere; one that is known leads where the walks from its joint lead
module _ (S : Form) {c n : ℕ} (seen : List Bool) where
  pub nothing_onward : c ≡ unknown → Visited (Onward S c) n seen seen
  nothing_onward e = nowhere_visited _ seen (λ w m o. o.0 e)

  pub onward_visited : {after : List Bool} → c ≢ unknown → Visited (Walk S c) n seen after → Visited (Onward S c) n seen after
  onward_visited d v =
      record {
        kept = v.kept;
        marks = λ w m o. v.marks w m o.1;
        new = λ m h. ⊎_elim (λ s. inl s) (λ x. inr (x.0, (d, x.1))) (v.new m h);
        once = λ w u m o p. v.once w u m o.1 p.1;
        short = λ w m o. v.short w m o.1;
        fresh = λ w m o s. v.fresh w m o.1 s;
      }

  pub onward_failed : c ≢ unknown → Failed (Walk S c) n seen → Failed (Onward S c) n seen
  onward_failed k (too_deep w m t h) = too_deep w m (k, t) h
  onward_failed k (twice w u m d p q) = twice w u m d (k, p) (k, q)
  onward_failed k (met w m t h) = met w m (k, t) h

  -- no level is left, or the joint is marked already
  pub onward_too_deep : c ≢ unknown → n ≡ 0 → Failed (Onward S c) n seen
  onward_too_deep k e = too_deep [] c (k, refl) (omega arith)

  pub onward_met : c ≢ unknown → Marked seen c → Failed (Onward S c) n seen
  onward_met k h = met [] c (k, refl) h
