-- One fact, arm by arm: what the code reads of the nodes and rows, and what it stores, is the fact taken or refuted.
-- Assumes nothing.
use mathlib.Core.Path.{◌≡◌, refl, ◌∙◌}
use mathlib.Core.Logic.{◌≢◌, ◌⊎◌, inl, inr, by_cases, ⊎_elim}
use mathlib.Core.Bool.{Bool, true, false}
use mathlib.Core.List.{List, [], ◌∷◌}
use Prim.Native.Nat.{ℕ, ◌+◌, ◌*◌, ◌<◌, ◌≤◌}
use native.Mathlib.Omega.{arith}
use native.Mathlib.Decide.{ℕ_discrete, dec_lt}
use lib.ListN.{get_or}
use Rattle.std.specs.Prelude.{Result, Ok, Err}
use Rattle.kinds.specs.Kinds.{meet_at}
use Rattle.meaning.specs.Picture.{Fact}
use Rattle.meaning.specs.Picture.Fact.{has_kind, same, leads}
use Rattle.meaning.specs.Form.{Form, list_form, unknown}
use Rattle.meaning.specs.Solving.{Well, InRange, Taken, Refuted}
use Rattle.solver.specs.Unpacked.{Lent, Named, Ready, Took}
use Rattle.solver.specs.Steps.{renumber, known_of, LinkSet, Unnamed, Joined, JoinedAlone, KindMet, LinkPut}
use Rattle.solver.proofs.Join.{renumber_hit, renumber_miss, known_first, known_second, class_of}
use Rattle.solver.proofs.Sets.{kind_taken, kind_refuted, same_already, link_taken, known_taken, known_refuted, end_inside}
use Rattle.solver.proofs.Stores.{kind_parts, link_parts, class_inside}

module _ {n v : ℕ} {table class kind rows : List ℕ} (d : Ready n v table (list_form class kind rows)) (lent : Lent class kind rows) where
  abbrev S : Form
  S = list_form class kind rows

  abbrev meet : ℕ → ℕ → ℕ
  meet = meet_at n table

  module _ {x : ℕ} (hx : x < v) where
    pub node_inside : x < 96
    node_inside = omega (arith, d.nodes)

    pub class_read : get_or class x 0 < 96
    class_read = class_inside d x hx

    pub kind_read : get_or kind (get_or class x 0) 0 < n
    kind_read = d.well.kind_in (get_or class x 0)

    -- its kind is met with s
    module _ {s : ℕ} (hs : s < n) {ok : Bool} {kind' : List ℕ} (m : KindMet meet class kind x s ok kind') where
      pub kind_takes : ok ≡ true → Taken n meet v S (has_kind x s ∷ []) (list_form class kind' rows)
      kind_takes e =
          let k = m.some e in
          rw k.1 (kind_taken d.lawful d.well hx hs k.0 (kind_parts class kind rows _ _ lent.kind_size class_read))

      pub kind_refutes : ok ≡ false → Refuted n meet v S (has_kind x s ∷ [])
      kind_refutes e = kind_refuted d.lawful d.well hx hs d.two (m.none e).0

    module _ {l y : ℕ} (hl : l < 16) (hy : y < v) where
      -- the link is not known, and set
      pub link_takes :
          {rows' : List ℕ} → LinkPut class rows x l y true rows' → Taken n meet v S (leads x l y ∷ []) (list_form class kind rows')
      link_takes m =
          let k = m.free refl in
          rw k.1
          (link_taken (omega (arith, d.nodes)) d.well hx hl hy k.0
          (link_parts class kind rows _ l _ lent.rows_sized class_read hl))

    -- the link is known: its end and y are made one
    module _ {l : ℕ} (hl : l < 16) (known : get_or rows (get_or class x 0 * 16 + l) 0 ≢ unknown) where
      pub end_read : get_or rows (get_or class x 0 * 16 + l) 0 < v
      end_read = end_inside d.well (class_of d.well x hx) hl known

      -- its end is a class
      pub end_class : get_or class (get_or rows (get_or class x 0 * 16 + l) 0) 0 ≡ get_or rows (get_or class x 0 * 16 + l) 0
      end_class = ⊎_elim (λ u. absurd (known u)) (λ s. s.1) (d.well.link_smallest (get_or class x 0) l (class_of d.well x hx) hl)

      pub known_takes :
          {y : ℕ} {T : Form} → Taken n meet v S (same (get_or rows (get_or class x 0 * 16 + l) 0) y ∷ []) T → Taken n meet v S (leads x l y ∷ []) T
      known_takes t = known_taken d.well hx hl known t

      pub known_took :
          {A E : Type 0} (y : ℕ) (r : Result A E) (T : A → Form)
          → Took n meet v S (same (get_or rows (get_or class x 0 * 16 + l) 0) y ∷ []) r T → Took n meet v S (leads x l y ∷ []) r T
      known_took y (Ok _) T t = known_taken d.well hx hl known t
      known_took y (Err _) T t = known_refuted d.well hx hl known t

  -- the two are one already
  pub same_takes : {x y : ℕ} → x < v → y < v → get_or class x 0 ≡ get_or class y 0 → Taken n meet v S (same x y ∷ []) S
  same_takes hx hy e = same_already d.well hx hy e

-- a fact in range is of some node
pub some_node : (n v : ℕ) (f : Fact ℕ) → InRange n v f → 0 < v
some_node n v (has_kind a s) r = omega (arith, r.0)
some_node n v (same a b) r = omega (arith, r.0)
some_node n v (leads a l c) r = omega (arith, r.0)

-- Which nodes the links of a well-formed form lead to.
pub well_named : {n v : ℕ} {S : Form} → 0 < v → Well n v S → Named v S
well_named {n} {v} {S} some w =
    record {
      some = some;
      below = λ j l h.
          by_cases (dec_lt j v)
          (λ i.
          by_cases (ℕ_discrete (S.class j) j)
          (λ e. ⊎_elim (λ u. inl u) (λ s. inr s.0) (w.link_smallest j l (i, e) h))
          (λ e. inr (omega (arith, w.link_rest j l (λ s. e s.1) h, some))))
          (λ i. inr (omega (arith, w.link_rest j l (λ s. i s.0) h, some)));
    }

-- the same links, and a top that is not lower
pub named_more : {top top' : ℕ} {S : Form} → top ≤ top' → Named top S → Named top' S
named_more h d =
    record { some = omega (arith, d.some); below = λ j l i. ⊎_elim (λ u. inl u) (λ b. inr (omega arith)) (d.below j l i) }

-- one link more, to c
pub named_link : {top top' a l c : ℕ} {S T : Form} → top ≤ top' → c < top' → LinkSet S a l c T → Named top S → Named top' T
named_link {top} {top'} {a} {l} {c} {S} {T} h k t d =
    record {
      some = omega arith;
      below = λ j m i.
          by_cases (ℕ_discrete j a)
          (λ e.
          by_cases (ℕ_discrete m l)
          (λ f. let q : T.link j m ≡ c = rw (e, f) t.link_a in inr (omega arith))
          (λ f. old j m i (λ _ q. f q)))
          (λ e. old j m i (λ q _. e q));
    }
  where
    old : (j m : ℕ) → m < 16 → (j ≡ a → m ≡ l → ⊥) → (T.link j m ≡ unknown) ⊎ (T.link j m < top')
    old j m i e =
        let q = t.link_rest j m i e in
        ⊎_elim (λ u. inl (q ∙ u)) (λ b. inr (omega arith)) (d.below j m i)

-- where a link may lead
abbrev Fine : ℕ → ℕ → Type 0
Fine top x = (x ≡ unknown) ⊎ (x < top)

-- two classes joined
pub named_join : {top a b k : ℕ} {S T : Form} → a < b → b < unknown → Joined S a b k T → Named top S → Named top T
named_join {top} {a} {b} {k} {S} {T} less small t d =
    record {
      some = d.some;
      below = λ j l i.
          by_cases (ℕ_discrete j a)
          (λ e. along (rw e (t.link_a l i)) (renumbered (known (d.below a l i) (d.below b l i))))
          (λ e.
          by_cases (ℕ_discrete j b)
          (λ f. let q : T.link j l ≡ 0 = rw f (t.link_b l i) in inr (omega (arith, d.some)))
          (λ f. along (t.link_rest j l i e f) (renumbered (d.below j l i))));
    }
  where
    along : {x y : ℕ} → x ≡ y → Fine top y → Fine top x
    along e f = rw e f

    known : {x y : ℕ} → Fine top x → Fine top y → Fine top (known_of x y)
    known {x} {y} f g =
        by_cases (ℕ_discrete x unknown) (λ e. along (known_second x y e) g) (λ e. along (known_first x y e) f)

    renumbered : {x : ℕ} → Fine top x → Fine top (renumber b a x)
    renumbered {x} f =
        by_cases (ℕ_discrete x b)
        (λ e. along (renumber_hit b a x e) (⊎_elim (λ u. absurd (omega arith)) (λ h. inr (omega arith)) f))
        (λ e. along (renumber_miss b a x e) f)

-- ... or not
pub named_alone :
    {meet : ℕ → ℕ → ℕ} {top low high : ℕ} {S T : Form} (yes : Bool) → low < high → high < unknown → JoinedAlone meet S low high yes T → Named top S
    → Named top T
named_alone true less small j d = named_join less small (j.joined refl) d
named_alone false less small j d = rw (j.kept refl) d

-- the link of x set
pub named_put :
    {n v top top' x l y : ℕ} {table class kind rows rows' : List ℕ} → Ready n v table (list_form class kind rows) → Lent class kind rows
    → x < v → l < 16 → LinkPut class rows x l y true rows' → top ≤ top' → get_or class y 0 < top' → Named top (list_form class kind rows)
    → Named top' (list_form class kind rows')
named_put {class = class} {kind = kind} {rows = rows} d lent hx hl m h k b =
    let p = m.free refl in
    rw p.1 (named_link h k (link_parts class kind rows _ _ _ lent.rows_sized (class_inside d _ hx) hl) b)

-- no link leads to a node that is not below top
pub unnamed : {top b : ℕ} (class kind rows : List ℕ) → Named top (list_form class kind rows) → top ≤ b → b < unknown → Unnamed b rows
unnamed class kind rows d h small j l i e = ⊎_elim (λ u. omega (arith, u)) (λ k. omega (arith, k)) (d.below j l i)
