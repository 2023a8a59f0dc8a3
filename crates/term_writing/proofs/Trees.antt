-- A whole visit from the root, after which every joint is marked or says nothing, is a tree; what a visit fails at, or a joint that it
-- missed, is none.
-- Assumes nothing.
use mathlib.Core.Path.{◌≡◌, refl, sym, ap, ◌∙◌}
use mathlib.Core.Logic.{◌≢◌, ◌⊎◌, inl, inr, ⊎_elim, by_cases}
use mathlib.Core.Bool.{Bool}
use mathlib.Core.List.{List, [], ◌∷◌, ◌++◌}
use Prim.Native.Nat.{ℕ, ◌<◌, ◌≤◌}
use native.Mathlib.Omega.{arith}
use native.Mathlib.Decide.{ℕ_discrete}
use lib.ListN.{length, length-append}
use Rattle.meaning.specs.Form.{Form, unknown}
use Rattle.meaning.specs.Solving.{Well}
use Rattle.terms.specs.Language.{deepest}
use Rattle.term_writing.specs.Tree.{Walk, Concerned, OneWalk, TreeFrom}
use Rattle.term_writing.specs.Tree.Concerned.{kind_known, link_known, led_to}
use Rattle.term_writing.specs.Visiting.{Marked, Unmarked, Visited, Failed, Sound, Accounted, Missed}
use Rattle.term_writing.specs.Visiting.Failed.{too_deep, twice, met}
use Rattle.term_writing.specs.Visiting.Accounted.{marked, silent}
use Rattle.term_writing.proofs.Visits.{not_both}
use Rattle.term_writing.proofs.Walks.{well_inside, only_walk, short_walk}

-- a well-formed form whose joints are apart is sound
pub well_sound : {n v : ℕ} {S : Form} → Well n v S → n ≤ 64 → v ≤ 64 → ((j : ℕ) → j < v → S.class j ≡ j) → Sound v S
well_sound w small few apart = record { few = few; kinds = λ j. omega (arith, w.kind_in j); links = well_inside w apart }

module _ {v : ℕ} {S : Form} (sound : Sound v S) where
  -- a link to a joint is known
  known : {i l m : ℕ} → m < v → S.link i l ≡ m → S.link i l ≢ unknown
  known h e k = omega (arith, sound.few, sym e ∙ k)

  -- one link more
  walk_on : (w : List ℕ) (a i l m : ℕ) → Walk S a w i → l < 16 → m < v → S.link i l ≡ m → Walk S a (w ++ (l ∷ [])) m
  walk_on [] a i l m t small h e = let q = ap (λ (x : ℕ). S.link x l) t ∙ e in (small, known h q, q)
  walk_on (first ∷ ls) a i l m t small h e = (t.0, t.1, walk_on ls (S.link a first) i l m t.2 small h e)

  longer : (w : List ℕ) (l : ℕ) → w ++ (l ∷ []) ≢ []
  longer w l e = omega (arith, ap length e, length-append w (l ∷ []))

  module _ {root : ℕ} (inside : root < v) where
    -- a tree has walks that are short and lead apart, so no visit of one fails
    pub failed_no_tree : {seen : List Bool} → ((m : ℕ) → Unmarked seen m) → Failed (Walk S root) deepest seen → TreeFrom v S root → ⊥
    failed_no_tree {seen} none (too_deep w m t h) tree = omega (arith, short_walk S sound.links inside tree m w t)
    failed_no_tree {seen} none (twice w u m d p q) tree = d (only_walk S sound.links inside tree m w u p q)
    failed_no_tree {seen} none (met w m t h) tree = not_both seen m h (none m)

    module _ {seen after : List Bool} (visited : Visited (Walk S root) deepest seen after) where
      pub missed_no_tree : {j : ℕ} → j < v → Missed S after j → TreeFrom v S root → ⊥
      missed_no_tree {j} h missed tree =
          by_cases (ℕ_discrete j root)
          (λ e. not_both after j (visited.marks [] j (sym e)) missed.unmet)
          (λ d. let o = tree.reached j h d (concerned missed.says) in not_both after j (visited.marks o.walk j o.leads) missed.unmet)
        where
          concerned : (S.kind j ≢ 1) ⊎ ((l : ℕ) × ((l < 16) × (S.link j l ≢ unknown))) → Concerned v S j
          concerned (inl k) = kind_known k
          concerned (inr x) = link_known x.0 x.1.0 x.1.1

      module _ (none : (m : ℕ) → Unmarked seen m) (accounted : (j : ℕ) → j < v → Accounted S after j) where
        reached_by : {j : ℕ} → Marked after j → (w : List ℕ) × Walk S root w j
        reached_by {j} h = ⊎_elim (λ s. absurd (not_both seen j s (none j))) (λ x. x) (visited.new j h)

        one : {j : ℕ} (w : List ℕ) → Walk S root w j → OneWalk S root j
        one {j} w t = record { walk = w; leads = t; short = visited.short w j t; only = λ other p. visited.once other w j p t }

        linked : (j l : ℕ) → j < v → l < 16 → S.link j l ≢ unknown → (w : List ℕ) × Walk S root w j
        linked j l h small k = told (accounted j h)
          where
            told : Accounted S after j → (w : List ℕ) × Walk S root w j
            told (marked m) = reached_by m
            told (silent e nothing) = absurd (k (nothing l small))

        -- the walk to a joint through a link to it
        led : (i l j : ℕ) → i < v → l < 16 → j < v → S.link i l ≡ j → (w : List ℕ) × Walk S root (w ++ (l ∷ [])) j
        led i l j hi small hj e = let x = linked i l hi small (known hj e) in (x.0, walk_on x.0 root i l j x.1 small hj e)

        reached : (j : ℕ) → j < v → Concerned v S j → OneWalk S root j
        reached j h (kind_known k) = told (accounted j h)
          where
            told : Accounted S after j → OneWalk S root j
            told (marked m) = let x = reached_by m in one x.0 x.1
            told (silent e nothing) = absurd (k e)
        reached j h (link_known l small k) = let x = linked j l h small k in one x.0 x.1
        reached j h (led_to i l hi small e) = let x = led i l j hi small h e in one (x.0 ++ (l ∷ [])) x.1

        pub visited_tree : ((j : ℕ) → j < v → S.class j ≡ j) → TreeFrom v S root
        visited_tree apart =
            record {
              apart = apart;
              unled = λ j l h small e.
                  let x = led j l root h small inside e in
                  longer x.0 l (visited.once (x.0 ++ (l ∷ [])) [] root x.1 refl);
              reached = λ j h d k. reached j h k;
            }
