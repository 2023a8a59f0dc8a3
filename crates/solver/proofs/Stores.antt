-- The stores of joining and of `with_fact`, put together: each makes the form that its step names.
-- Assumes nothing.
use mathlib.Core.Path.{◌≡◌, refl, sym, ◌∙◌, ap, ap₂}
use mathlib.Core.Logic.{◌≢◌, by_cases}
use mathlib.Core.List.{List, ◌++◌}
use Prim.Native.Nat.{ℕ, ◌+◌, ◌-◌, ◌*◌, ◌<◌, ◌≤◌}
use native.Mathlib.Omega.{arith}
use native.Mathlib.Decide.{ℕ_discrete, dec_lt}
use lib.ListN.{get_or, length, set, drop, take, length-set, length-append, length-drop, get_or-append, get_or-eq_default}
use lib.Seq.{get_or-set_same, get_or-set_other, get_or-append-add, get_or-take, get_or-drop, length-take-le}
use Rattle.meaning.specs.Form.{Form, list_form, unknown}
use Rattle.solver.specs.Unpacked.{rows_size, Ready}
use Rattle.solver.specs.Steps.{renumber, known_of, Renumbered, RowOf, RowPut, RowsJoined, Unnamed, Joined, KindSet, LinkSet, Joinable}
use Rattle.solver.proofs.Join.{renumber_miss, known_first, known_second, class_of}

-- the first v places renumbered, and the others as they were
module _ (s x : List ℕ) {v b a : ℕ} (h : v ≤ length s) (r : Renumbered (take v s) b a x) where
  taken_size : length (take v s) ≡ v
  taken_size = length-take-le v s h

  front_length : length x ≡ v
  front_length = r.size ∙ taken_size

  pub front_size : length (x ++ drop v s) ≡ length s
  front_size = simp (length-append, length-drop) (omega (arith, front_length))

  pub front_inside : (i : ℕ) → i < v → get_or (x ++ drop v s) i 0 ≡ renumber b a (get_or s i 0)
  front_inside i k =
      get_or-append x (drop v s) 0 i (omega (arith, front_length))
      ∙ r.at i (omega (arith, taken_size))
      ∙ ap (renumber b a) (get_or-take v s i 0 k)

  pub front_behind : (i : ℕ) → v ≤ i → get_or (x ++ drop v s) i 0 ≡ get_or s i 0
  front_behind i k =
      let q : i ≡ length x + (i - v) = omega (arith, front_length) in
      let p : v + (i - v) ≡ i = omega arith in
      ap (λ (m : ℕ). get_or (x ++ drop v s) m 0) q
      ∙ get_or-append-add x (drop v s) (i - v) 0
      ∙ get_or-drop v s (i - v) 0
      ∙ ap (λ (m : ℕ). get_or s m 0) p

-- two rows put, s₂
module _
    (s x y row zeros s₁ s₂ : List ℕ) {v a b : ℕ} (fits : (length s ≡ rows_size) × (v ≤ 96) × (a < b) × (b < v))
    (hx : RowOf s a x) (hy : RowOf s b y) (hrow : (l : ℕ) → l < 16 → get_or row l 0 ≡ known_of (get_or x l 0) (get_or y l 0))
    (p : RowPut s a row s₁) (hz : (l : ℕ) → l < 16 → get_or zeros l 0 ≡ 0) (q : RowPut s₁ b zeros s₂) where
  put_a : (l : ℕ) → l < 16 → get_or s₂ (a * 16 + l) 0 ≡ known_of (get_or s (a * 16 + l) 0) (get_or s (b * 16 + l) 0)
  put_a l i = q.rest a l i (λ e. omega arith) ∙ p.at l i ∙ hrow l i ∙ ap₂ known_of (hx l i) (hy l i)

  put_b : (l : ℕ) → l < 16 → get_or s₂ (b * 16 + l) 0 ≡ 0
  put_b l i = q.at l i ∙ hz l i

  put_rest : (j l : ℕ) → l < 16 → j ≢ a → j ≢ b → get_or s₂ (j * 16 + l) 0 ≡ get_or s (j * 16 + l) 0
  put_rest j l i d e = q.rest j l i e ∙ p.rest j l i d

  -- ... and the rows renumbered
  pub rows_joined : {r : List ℕ} → Renumbered (take (16 * v) s₂) b a r → RowsJoined s v a b (r ++ drop (16 * v) s₂)
  rows_joined {r} h =
      let room : 16 * v ≤ length s₂ = omega (arith, p.size, q.size) in
      record {
        at_a = λ l i. front_inside s₂ r room h (a * 16 + l) (omega arith) ∙ ap (renumber b a) (put_a l i);
        at_b = λ l i.
            front_inside s₂ r room h (b * 16 + l) (omega arith)
            ∙ ap (renumber b a) (put_b l i)
            ∙ renumber_miss b a 0 (λ e. omega arith);
        inside = λ j l i k d e.
            front_inside s₂ r room h (j * 16 + l) (omega arith) ∙ ap (renumber b a) (put_rest j l i d e);
        behind = λ j l i k.
            front_behind s₂ r room h (j * 16 + l) (omega arith) ∙ put_rest j l i (λ e. omega arith) (λ e. omega arith);
      }

  -- ... or not, where none names b
  pub rows_joined_unnamed : Unnamed b s → RowsJoined s v a b s₂
  rows_joined_unnamed free =
      record {
        at_a = λ l i. put_a l i ∙ sym (renumber_miss b a _ (known_free (free a l i) (free b l i)));
        at_b = put_b;
        inside = λ j l i k d e. put_rest j l i d e ∙ sym (renumber_miss b a _ (free j l i));
        behind = λ j l i k. put_rest j l i (λ e. omega arith) (λ e. omega arith);
      }
    where
      known_free : {x y : ℕ} → x ≢ b → y ≢ b → known_of x y ≢ b
      known_free {x} {y} dx dy e =
          by_cases (ℕ_discrete x unknown) (λ u. dy (sym (known_second x y u) ∙ e)) (λ d. dx (sym (known_first x y d) ∙ e))

-- beyond the end both lists are 0, which is no b
renumbered_at : {s : List ℕ} {b a : ℕ} {t : List ℕ} → a < b → Renumbered s b a t → (i : ℕ) → get_or t i 0 ≡ renumber b a (get_or s i 0)
renumbered_at {s} {b} {a} {t} less r i =
    by_cases (dec_lt i (length s))
    (λ h. r.at i h)
    (λ h.
    get_or-eq_default t 0 (omega (arith, r.size))
    ∙ sym (ap (renumber b a) (get_or-eq_default s 0 (omega arith)) ∙ renumber_miss b a 0 (λ e. omega arith)))

-- the classes, kinds and rows joined, as a form
pub joined_parts :
    {n v : ℕ} (class kind rows : List ℕ) {a b k : ℕ} → Joinable n v class kind rows a b
    → (class' rows' : List ℕ) → Renumbered class b a class' → RowsJoined rows v a b rows'
    → Joined (list_form class kind rows) a b k (list_form class' (set (set kind a k) b 0) rows')
joined_parts {n} {v} class kind rows {a} {b} {k} d class' rows' c r =
    let inside : b < length kind = omega (arith, d.lent.kind_size, d.high_smallest.0, d.nodes) in
    let less = d.less in
    record {
      class = renumbered_at less c;
      kind_a = get_or-set_other (set kind a k) b a 0 0 (λ e. omega arith) ∙ get_or-set_same kind a k 0 (omega arith);
      kind_b = get_or-set_same (set kind a k) b 0 0 (simp length-set inside);
      kind_rest = λ j x y. get_or-set_other (set kind a k) b j 0 0 y ∙ get_or-set_other kind a j k 0 x;
      link_a = r.at_a;
      link_b = r.at_b;
      link_rest = λ j l i x y.
          by_cases (dec_lt j v)
          (λ h. r.inside j l i h x y)
          (λ h.
          let zero_row = d.well.link_rest j l (λ s. omega (arith, s.0)) i in
          r.behind j l i (omega arith)
          ∙ zero_row
          ∙ sym (ap (renumber b a) zero_row ∙ renumber_miss b a 0 (λ e. omega arith)));
    }

pub kind_parts :
    (class kind rows : List ℕ) (a k : ℕ) → length kind ≡ 96 → a < 96
    → KindSet (list_form class kind rows) a k (list_form class (set kind a k) rows)
kind_parts class kind rows a k size h =
    record {
      class = λ j. refl;
      kind_a = get_or-set_same kind a k 0 (omega arith);
      kind_rest = λ j d. get_or-set_other kind a j k 0 d;
      link = λ j l i. refl;
    }

pub link_parts :
    (class kind rows : List ℕ) (a l c : ℕ) → length rows ≡ rows_size → a < 96 → l < 16
    → LinkSet (list_form class kind rows) a l c (list_form class kind (set rows (a * 16 + l) c))
link_parts class kind rows a l c size ha hl =
    record {
      class = λ j. refl;
      kind = λ j. refl;
      link_a = get_or-set_same rows (a * 16 + l) c 0 (omega arith);
      link_rest = λ j k i d. get_or-set_other rows (a * 16 + l) (j * 16 + k) c 0 (λ e. other j k i d e);
    }
  where
    -- rows of 16 do not overlap
    other : (j k : ℕ) → k < 16 → (j ≡ a → k ≡ l → ⊥) → j * 16 + k ≢ a * 16 + l
    other j k i d e = d (omega arith) (omega arith)

-- class numbers are nodes
pub class_inside : {n v : ℕ} {table : List ℕ} {S : Form} → Ready n v table S → (j : ℕ) → j < v → S.class j < 96
class_inside d j h = omega (arith, (class_of d.well j h).0, d.nodes)
