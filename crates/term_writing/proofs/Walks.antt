-- Walks along the links of a form. In a tree no walk leads back to the root, and from the root at most one leads to each joint, of fewer than
-- 16 links.
-- Assumes nothing.
use mathlib.Core.Path.{◌≡◌, refl, sym, ◌∙◌, ap, subst}
use mathlib.Core.Logic.{◌≢◌, ⊎_elim}
use mathlib.Core.List.{List, [], ◌∷◌}
use Prim.Native.Nat.{ℕ, suc, ◌<◌}
use native.Mathlib.Omega.{arith}
use lib.ListN.{length}
use Rattle.meaning.specs.Form.{Form, unknown}
use Rattle.meaning.specs.Solving.{Smallest, Well}
use Rattle.terms.specs.Language.{deepest}
use Rattle.term_writing.specs.Tree.{Walk, OneWalk, TreeFrom}
use Rattle.term_writing.specs.Tree.Concerned.{led_to}

module _ (S : Form) where
  -- from joint j at most one walk leads to each joint
  abbrev pub OneEach : ℕ → Type 0
  OneEach j = (x : ℕ) (p q : List ℕ) → Walk S j p x → Walk S j q x → p ≡ q

  -- and every walk has fewer links than so many
  abbrev pub Within : ℕ → ℕ → Type 0
  Within depth j = (x : ℕ) (p : List ℕ) → Walk S j p x → length p < depth

  module _ (j l : ℕ) (below : l < 16) (known : S.link j l ≢ unknown) where
    pub one_each_next : OneEach j → OneEach (S.link j l)
    one_each_next u x p q a b = let e = u x (l ∷ p) (l ∷ q) (below, known, a) (below, known, b) in cc

    pub within_next : {depth : ℕ} → Within (suc depth) j → Within depth (S.link j l)
    within_next h x p a = omega (arith, h x (l ∷ p) (below, known, a))

-- a joint at the end of a link
record Led (v : ℕ) (S : Form) (x : ℕ) : Type 0 where
  from : ℕ
  link : ℕ
  inside : from < v
  low : link < 16
  there : S.link from link ≡ x

-- the known links of the joints below v lead below v
abbrev pub Inside : ℕ → Form → Type 0
Inside v S = (j l : ℕ) → j < v → l < 16 → S.link j l ≢ unknown → S.link j l < v

pub well_inside : {n v : ℕ} {S : Form} → Well n v S → ((j : ℕ) → j < v → S.class j ≡ j) → Inside v S
well_inside {v = v} {S = S} w apart j l h low known =
    ⊎_elim (λ e. absurd (known e)) (λ (s : Smallest v S (S.link j l)). s.0) (w.link_smallest j l (h, apart j h) low)

module _ (S : Form) {v : ℕ} (ends : Inside v S) where
  pub walk_inside : (p : List ℕ) (j x : ℕ) → j < v → Walk S j p x → x < v
  walk_inside [] j x h a = omega (arith, a)
  walk_inside (l ∷ p) j x h a = walk_inside p (S.link j l) x (ends j l h a.0 a.1) a.2

  last_link : (l : ℕ) (p : List ℕ) (j x : ℕ) → j < v → Walk S j (l ∷ p) x → Led v S x
  last_link l [] j x h a = record { from = j; link = l; inside = h; low = a.0; there = a.2 }
  last_link l (k ∷ p) j x h a = last_link k p (S.link j l) x (ends j l h a.0 a.1) a.2

  module _ {root : ℕ} (inside : root < v) (tree : TreeFrom v S root) where
    not_back : (l : ℕ) (p : List ℕ) → Walk S root (l ∷ p) root → ⊥
    not_back l p a = let e = last_link l p root root inside a in tree.unled e.from e.link e.inside e.low e.there

    -- a joint where some link leads on a walk from the root is reached as a tree demands
    one_walk : (l : ℕ) (p : List ℕ) (x : ℕ) → Walk S root (l ∷ p) x → OneWalk S root x
    one_walk l p x a =
        let e = last_link l p root x inside a in
        tree.reached x (walk_inside (l ∷ p) root x inside a) (λ q. not_back l p (subst (Walk S root (l ∷ p)) q a))
        (led_to e.from e.link e.inside e.low e.there)

    pub only_walk : OneEach S root
    only_walk x [] [] a b = refl
    only_walk x [] (k ∷ q) a b = absurd (not_back k q (subst (Walk S root (k ∷ q)) (sym a) b))
    only_walk x (l ∷ p) q a b = let o = one_walk l p x a in o.only (l ∷ p) a ∙ sym (o.only q b)

    pub short_walk : Within S deepest root
    short_walk x [] a = omega arith
    short_walk x (l ∷ p) a = let o = one_walk l p x a in omega (arith, o.short, ap length (o.only (l ∷ p) a))
