-- Solving with a list of pairs of nodes that are still to be made one: how it begins, what one turn does to the last pair, and that
-- no pair left means solved. Each join leaves one class less, so that 17 times the classes and the pairs together fall at each turn.
-- Assumes nothing.
use mathlib.Core.Path.{◌≡◌, refl, sym, ◌∙◌, ap, ap₂}
use mathlib.Core.Logic.{◌↔◌, ◌≢◌, ◌⊎◌, inl, inr, by_cases, ⊎_elim}
use mathlib.Core.Bool.{Bool, true, false, true≢false}
use mathlib.Core.List.{List, [], ◌∷◌}
use Prim.Native.Nat.{ℕ, zero, suc, ◌+◌, ◌-◌, ◌*◌, ◌<◌, ◌≤◌}
use native.Mathlib.Omega.{arith}
use native.Mathlib.Decide.{ℕ_discrete, dec_lt}
use lib.ListN.{get_or, length, set}
use lib.Seq.{get_or-set_same, get_or-set_other}
use borrow.Author.Tests.{eq-eqb, ne_eqb}
use Rattle.std.specs.Int.{from_bool}
use Rattle.kinds.specs.Kinds.{meet_at}
use Rattle.meaning.specs.Picture.{Picture, Fact}
use Rattle.meaning.specs.Picture.Fact.{same}
use Rattle.meaning.specs.Form.{Form, list_form, unknown, classes}
use Rattle.meaning.specs.Solving.{Smallest, Well, Models, Taken, Refuted}
use Rattle.solver.specs.Unpacked.{Lent, Ready}
use Rattle.solver.specs.Steps.{both_known, InOrder, pair_at, Pairs, Running, Pushed, Joinable, JoinReady, JoinDone, JoinedAlone}
use Rattle.solver.proofs.Join.{
  Joining,
  EndsAgree,
  class_of,
  smallest_T,
  smallest_S,
  b_gone,
  joined_well,
  joined_one,
  joined_use,
  joined_make,
  ends_agree,
  joined_clash,
}
use Rattle.solver.proofs.Sets.{end_inside}

pub classes_none : (S : Form) → classes S 0 ≡ 0
unfolding classes
classes_none S = refl

-- one node more: it is counted where it is its class's smallest
pub classes_one : (S : Form) (k : ℕ) → S.class k ≡ k → classes S (k + 1) ≡ classes S k + 1
unfolding classes
classes_one S k q = let e : k + 1 ≡ suc k = omega arith in rw (e, eq-eqb _ _ q) (omega arith)

pub classes_other : (S : Form) (k : ℕ) → S.class k ≢ k → classes S (k + 1) ≡ classes S k + 0
unfolding classes
classes_other S k d = let e : k + 1 ≡ suc k = omega arith in rw (e, ne_eqb _ _ d) (omega arith)

pub classes_le : (S : Form) (k : ℕ) → classes S k ≤ k
unfolding classes
classes_le S zero = omega arith
classes_le S (suc k) =
    by_cases (ℕ_discrete (S.class k) k)
    (λ e. rw (eq-eqb _ _ e) (omega (arith, classes_le S k)))
    (λ d. rw (ne_eqb _ _ d) (omega (arith, classes_le S k)))

-- the count goes by which nodes are smallest
classes_same : (S T : Form) (k : ℕ) → ((j : ℕ) → j < k → (S.class j ≡ j) ↔ (T.class j ≡ j)) → classes T k ≡ classes S k
unfolding classes
classes_same S T zero e = refl
classes_same S T (suc k) e =
    let r : classes T k ≡ classes S k = classes_same S T k (λ j h. e j (omega arith)) in
    by_cases (ℕ_discrete (S.class k) k)
    (λ q. rw (eq-eqb _ _ q, eq-eqb _ _ ((e k (omega arith)).0 q)) (ap suc r))
    (λ d. rw (ne_eqb _ _ d, ne_eqb _ _ (λ q. d ((e k (omega arith)).1 q))) r)

-- T has the classes of S but b
classes_less :
    (S T : Form) (b k : ℕ) → b < k → S.class b ≡ b → T.class b ≢ b
    → ((j : ℕ) → j < k → j ≢ b → (S.class j ≡ j) ↔ (T.class j ≡ j))
    → suc (classes T k) ≡ classes S k
unfolding classes
classes_less S T b zero h p q e = absurd (omega arith)
classes_less S T b (suc k) h p q e =
    by_cases (ℕ_discrete k b)
    (λ i.
    let x = eq-eqb (S.class k) k (rw i p) in
    let y = ne_eqb (T.class k) k (rw i q) in
    rw (x, y) (ap suc (classes_same S T k (λ j g. e j (omega arith) (λ z. omega arith)))))
    (λ d.
    let r : suc (classes T k) ≡ classes S k = classes_less S T b k (omega arith) p q (λ j g. e j (omega arith)) in
    by_cases (ℕ_discrete (S.class k) k)
    (λ i. rw (eq-eqb _ _ i, eq-eqb _ _ ((e k (omega arith) d).0 i)) (ap suc r))
    (λ i. rw (ne_eqb _ _ i, ne_eqb _ _ (λ z. i ((e k (omega arith) d).1 z))) r))

both_cases :
    (x y : ℕ) (C : Bool → Type 0) → (x ≢ unknown → y ≢ unknown → C true) → ((x ≡ unknown) ⊎ (y ≡ unknown) → C false) → C (both_known x y)
both_cases x y C f g =
    by_cases (ℕ_discrete x unknown)
    (λ e. rw (eq-eqb x unknown e) (g (inl e)))
    (λ d.
    by_cases (ℕ_discrete y unknown)
    (λ e. rw (ne_eqb x unknown d, eq-eqb y unknown e) (g (inr e)))
    (λ c. rw (ne_eqb x unknown d, ne_eqb y unknown c) (f d c)))

-- where both are known it is true
pub both_some : {x y : ℕ} → x ≢ unknown → y ≢ unknown → both_known x y ≡ false → ⊥
both_some {x} {y} dx dy e =
    let q : both_known x y ≡ true = rw (ne_eqb x unknown dx, ne_eqb y unknown dy) refl in
    true≢false (sym q ∙ e)

pub pushed_none : (x y : ℕ → ℕ) (pairs : List (ℕ × ℕ)) (size : ℕ) → Pushed 0 x y pairs size pairs size
pushed_none x y pairs size =
    record {
      more = omega arith;
      most = omega arith;
      old = λ i h. refl;
      new = λ i a b. absurd (omega arith);
      all = λ l h. absurd (omega arith);
    }

-- one link more: its two ends are written, and counted where both are known
pub pushed_more :
    (m : ℕ) (x y : ℕ → ℕ) (pairs : List (ℕ × ℕ)) (size : ℕ) (pairs' : List (ℕ × ℕ)) (size' : ℕ)
    → size' < length pairs'
    → Pushed m x y pairs size pairs' size'
    → Pushed (m + 1) x y pairs size (set pairs' size' (x m, y m)) (size' + from_bool (both_known (x m) (y m)))
pushed_more m x y pairs size pairs' size' room p =
    both_cases (x m) (y m)
    (λ k. Pushed (m + 1) x y pairs size (set pairs' size' (x m, y m)) (size' + from_bool k))
    (λ dx dy.
    record {
      more = omega (arith, p.more);
      most = omega (arith, p.most);
      old = old;
      new = λ i a b.
          by_cases (ℕ_discrete i size')
          (λ e. (m, omega arith, dx, dy, rw e here))
          (λ d.
          let w = p.new i a (omega arith) in
          (w.0, omega (arith, w.1), w.2, w.3, get_or-set_other pairs' size' i (x m, y m) (0, 0) d ∙ w.4));
      all = λ l h kx ky.
          by_cases (ℕ_discrete l m)
          (λ e. rw e (size', omega arith, here))
          (λ d.
          let w = p.all l (omega arith) kx ky in
          (w.0, omega (arith, w.1), before w.0 w.1 ∙ w.2));
    })
    (λ u.
    record {
      more = omega (arith, p.more);
      most = omega (arith, p.most);
      old = old;
      new = λ i a b.
          let w = p.new i a (omega arith) in
          (w.0, omega (arith, w.1), w.2, w.3, before i (omega arith) ∙ w.4);
      all = λ l h kx ky.
          by_cases (ℕ_discrete l m)
          (λ e. absurd (⊎_elim (λ z. kx (rw e z)) (λ z. ky (rw e z)) u))
          (λ d.
          let w = p.all l (omega arith) kx ky in
          (w.0, omega (arith, w.1), before w.0 w.1 ∙ w.2));
    })
  where
    here : pair_at (set pairs' size' (x m, y m)) size' ≡ (x m, y m)
    here = get_or-set_same pairs' size' (x m, y m) (0, 0) room

    before : (i : ℕ) → i < size' → pair_at (set pairs' size' (x m, y m)) i ≡ pair_at pairs' i
    before i h = get_or-set_other pairs' size' i (x m, y m) (0, 0) (λ e. omega arith)

    old : (i : ℕ) → i < size → pair_at (set pairs' size' (x m, y m)) i ≡ pair_at pairs i
    old i h = before i (omega (arith, p.more)) ∙ p.old i h

-- rows that agree push the same pairs
pub pushed_along :
    {m : ℕ} {x y x' y' : ℕ → ℕ} {pairs : List (ℕ × ℕ)} {size : ℕ} {pairs' : List (ℕ × ℕ)} {size' : ℕ}
    → ((l : ℕ) → l < m → x l ≡ x' l) → ((l : ℕ) → l < m → y l ≡ y' l)
    → Pushed m x y pairs size pairs' size' → Pushed m x' y' pairs size pairs' size'
pushed_along {x = x} {y = y} hx hy p =
    record {
      more = p.more;
      most = p.most;
      old = p.old;
      new = λ i a b.
          let w = p.new i a b in
          let ex = hx w.0 w.1 in
          let ey = hy w.0 w.1 in
          (w.0, w.1, λ u. w.2 (ex ∙ u), λ u. w.3 (ey ∙ u), w.4 ∙ both ex ey);
      all = λ l h kx ky.
          let w = p.all l h (λ u. kx (sym (hx l h) ∙ u)) (λ u. ky (sym (hy l h) ∙ u)) in
          (w.0, w.1, w.2 ∙ both (hx l h) (hy l h));
    }
  where
    both : {a b c d : ℕ} → a ≡ b → c ≡ d → ◌≡◌ {A = ℕ × ℕ} (a, c) (b, d)
    both {a} {b} {c} {d} e f = ap₂ (λ (i j : ℕ). (i, j)) e f

-- the first pair is the fact itself
pub run_start :
    {n : ℕ} {meet : ℕ → ℕ → ℕ} {v : ℕ} {S : Form} → Well n v S → {x y : ℕ} → x < v → y < v
    → {pairs : List (ℕ × ℕ)} → pair_at pairs 0 ≡ (x, y)
    → Running n meet v S (same x y ∷ []) S pairs 1
run_start {v = v} {S = S} w hx hy is =
    record {
      well = w;
      inside = λ i h. let e : i ≡ 0 = omega arith in rw (e, is) (hx, hy);
      room = omega (arith, classes_le S v);
      means = λ P σ placed. (
        λ m. (m.0, (rw is at (m.1 0 (omega arith)), tt)),
        λ m. (m.0, λ i h. let e : i ≡ 0 = omega arith in rw (e, is) m.1.0),
      );
    }

module _ {n : ℕ} {meet : ℕ → ℕ → ℕ} {v : ℕ} {S₀ : Form} {fs : List (Fact ℕ)} {S : Form} {pairs : List (ℕ × ℕ)} where
  -- no pair is left
  pub run_done : Running n meet v S₀ fs S pairs 0 → Taken n meet v S₀ fs S
  run_done r =
      record {
        well = r.well;
        means = λ P σ placed. (
          λ m. (r.means P σ placed).0 (m, λ i h. absurd (omega arith)),
          λ m. ((r.means P σ placed).1 m).0,
        );
      }

-- One turn: the last pair.
module _
    {n v : ℕ} {table : List ℕ} {S₀ : Form} (d : Ready n v table S₀)
    {fs : List (Fact ℕ)} {S : Form} {pairs : List (ℕ × ℕ)} {size : ℕ} (r : Running n (meet_at n table) v S₀ fs S pairs size)
    (some : 0 < size) where
  abbrev meet : ℕ → ℕ → ℕ
  meet = meet_at n table

  abbrev x : ℕ
  x = (pair_at pairs (size - 1)).0

  abbrev y : ℕ
  y = (pair_at pairs (size - 1)).1

  last_inside : (x < v) × (y < v)
  last_inside = r.inside (size - 1) (omega arith)

  pub last_nodes : (x < 96) × (y < 96)
  last_nodes = (omega (arith, last_inside.0, d.nodes), omega (arith, last_inside.1, d.nodes))

  pub last_room : size + 15 ≤ 1552
  last_room = omega (arith, r.room, d.nodes)

  -- the pairs but the last, and the last, are all
  pairs_all : (σ : ℕ → ℕ) → Pairs pairs (size - 1) σ → σ x ≡ σ y → Pairs pairs size σ
  pairs_all σ ps e i h =
      by_cases (ℕ_discrete i (size - 1)) (λ z. rw z e) (λ z. ps i (omega arith))

  -- the last pair is one already
  pub run_skip : S.class x ≡ S.class y → Running n meet v S₀ fs S pairs (size - 1)
  run_skip e =
      record {
        well = r.well;
        inside = λ i h. r.inside i (omega arith);
        room = omega (arith, r.room);
        means = λ P σ placed. (
          λ m.
              (r.means P σ placed).0
              (m.0, pairs_all σ m.1 (m.0.one x last_inside.0 ∙ ap σ e ∙ sym (m.0.one y last_inside.1))),
          λ m.
              let z : Models meet v S P σ × Pairs pairs size σ = (r.means P σ placed).1 m in
              (z.0, λ i h. z.1 i (omega arith)),
        );
      }

  -- its two classes, the smaller first
  module _ {low high : ℕ} (o : InOrder (S.class x) (S.class y) low high) where
    pub smallest_low : Smallest v S low
    smallest_low =
        ⊎_elim
        (λ z. rw z.0 (class_of r.well x last_inside.0))
        (λ z. rw z.0 (class_of r.well y last_inside.1))
        o.which

    pub smallest_high : Smallest v S high
    smallest_high =
        ⊎_elim
        (λ z. rw z.1 (class_of r.well y last_inside.1))
        (λ z. rw z.1 (class_of r.well x last_inside.0))
        o.which

    -- in a model, the pair is one exactly when its classes are
    pair_classes : (P : Picture n) (σ : ℕ → ℕ) → Models meet v S P σ → σ x ≡ σ y → σ low ≡ σ high
    pair_classes P σ m e =
        let f : σ (S.class x) ≡ σ (S.class y) = sym (m.one x last_inside.0) ∙ e ∙ m.one y last_inside.1 in
        ⊎_elim (λ z. rw (z.0, z.1) f) (λ z. rw (z.0, z.1) (sym f)) o.which

    classes_pair : (P : Picture n) (σ : ℕ → ℕ) → Models meet v S P σ → σ low ≡ σ high → σ x ≡ σ y
    classes_pair P σ m e =
        let f : σ (S.class x) ≡ σ (S.class y) =
        ⊎_elim (λ z. rw (← z.0, ← z.1) e) (λ z. rw (← z.0, ← z.1) (sym e)) o.which in
        m.one x last_inside.0 ∙ f ∙ sym (m.one y last_inside.1)

    -- the form at hand is as ready as the first
    pub run_form : Ready n v table S
    run_form = record { two = d.two; kinds = d.kinds; size = d.size; lawful = d.lawful; nodes = d.nodes; well = r.well }

    pub run_clash : meet (S.kind low) (S.kind high) ≡ 0 → Refuted n meet v S₀ fs
    run_clash none P σ placed m f =
        let g : Models meet v S P σ × Pairs pairs size σ = (r.means P σ placed).1 (m, f) in
        joined_clash d.lawful d.two r.well smallest_low smallest_high none P σ placed g.0
        (pair_classes P σ g.0 (g.1 (size - 1) (omega arith)))

    -- they are joined, and the ends of the links known in both are new pairs
    module _ {T : Form} {pairs' : List (ℕ × ℕ)} {size' : ℕ} (j : JoinDone meet S low high pairs (size - 1) T pairs' size') where
      J : Joining n meet v S low high T
      J =
          record {
            lawful = d.lawful;
            two = d.two;
            small = omega (arith, d.nodes);
            well = r.well;
            smallest_a = smallest_low;
            smallest_b = smallest_high;
            less = o.less;
            joined = j.joined;
          }

      one_less : suc (classes T v) ≡ classes S v
      one_less =
          classes_less S T high v smallest_high.0 smallest_high.1 (b_gone J)
          (λ i h z. (λ e. (smallest_T J i (h, e) z).1, λ e. (smallest_S J i (h, e)).0.1))

      pub run_falls : 17 * classes T v + size' < 17 * classes S v + size
      run_falls = omega (arith, j.pushed.most, one_less)

      pub run_join : Running n meet v S₀ fs T pairs' size'
      run_join =
          let s = j.pushed in
          record {
            well = joined_well J j.some;
            inside = λ i h.
                by_cases (dec_lt i (size - 1))
                (λ z. rw (s.old i z) (r.inside i (omega arith)))
                (λ z.
                let w = s.new i (omega arith) h in
                rw w.4 (end_inside r.well smallest_low w.1 w.2, end_inside r.well smallest_high w.1 w.3));
            room = omega (arith, r.room, one_less, s.most);
            means = λ P σ placed. (
              λ m.
                  let agree : EndsAgree S low high σ = λ l h ka kb.
                  let w = s.all l h ka kb in rw w.2 at (m.1 w.0 w.1) in
                  let was : Models meet v S P σ = joined_use J P σ m.0 agree in
                  (r.means P σ placed).0 (
                    was,
                    pairs_all σ
                        (λ i h. rw (s.old i h) at (m.1 i (omega (arith, s.more))))
                        (classes_pair P σ was (joined_one J P σ m.0)),
                  ),
              λ m.
                  let g : Models meet v S P σ × Pairs pairs size σ = (r.means P σ placed).1 m in
                  let e : σ low ≡ σ high = pair_classes P σ g.0 (g.1 (size - 1) (omega arith)) in
                  let agree : EndsAgree S low high σ = ends_agree smallest_low smallest_high P σ g.0 e in (
                    joined_make J P σ g.0 e,
                    λ i h.
                        by_cases (dec_lt i (size - 1))
                        (λ z. rw (s.old i z) (g.1 i (omega arith)))
                        (λ z.
                        let w = s.new i (omega arith) h in
                        rw w.4 (agree w.0 w.1 w.2 w.3)),
                  ),
            );
          }

-- what joining asks for, of the nodes and rows at hand
pub run_ready :
    {n v : ℕ} {table : List ℕ} {S₀ : Form} (d : Ready n v table S₀) {fs : List (Fact ℕ)} {class kind rows : List ℕ} {pairs : List (ℕ × ℕ)} {size : ℕ}
    (r : Running n (meet_at n table) v S₀ fs (list_form class kind rows) pairs size) (some : 0 < size) {low high : ℕ}
    → InOrder (get_or class (pair_at pairs (size - 1)).0 0) (get_or class (pair_at pairs (size - 1)).1 0) low high
    → Lent class kind rows → size + 15 ≤ length pairs
    → JoinReady n v table class kind rows low high pairs size
run_ready d r some o lent room =
    record {
      ready = run_form d r some o;
      joinable = record {
        lent = lent;
        nodes = d.nodes;
        well = r.well;
        less = o.less;
        low_smallest = smallest_low d r some o;
        high_smallest = smallest_high d r some o;
      };
      some = some;
      room = room;
    }

-- the classes of two nodes, in order, can be joined
pub pair_joinable :
    {n v : ℕ} {table class kind rows : List ℕ} → Ready n v table (list_form class kind rows) → Lent class kind rows → {x y low high : ℕ} → x < v → y < v
    → InOrder (get_or class x 0) (get_or class y 0) low high → Joinable n v class kind rows low high
pair_joinable {n} {v} {table} d lent {x} {y} hx hy o =
    let start = run_start {meet = meet_at n table} d.well hx hy {pairs = (x, y) ∷ []} refl in
    record {
      lent = lent;
      nodes = d.nodes;
      well = d.well;
      less = o.less;
      low_smallest = smallest_low d start (omega arith) o;
      high_smallest = smallest_high d start (omega arith) o;
    }

-- two classes joined from which nothing more follows: the pair is all there is to be made one
pub alone_taken :
    {n v : ℕ} {table : List ℕ} {S : Form} (d : Ready n v table S) {x y low high : ℕ} → x < v → y < v
    → InOrder (S.class x) (S.class y) low high → {T : Form} → JoinedAlone (meet_at n table) S low high true T
    → Taken n (meet_at n table) v S (same x y ∷ []) T
alone_taken {table = table} {S = S} d {x} {y} {low} {high} hx hy o {T} j =
    let start = run_start d.well hx hy {pairs = (x, y) ∷ []} refl in
    run_done {pairs = (x, y) ∷ []}
    (run_join d start (omega arith) o
    (record {
      some = j.some refl;
      joined = j.joined refl;
      pushed = record {
        more = omega arith;
        most = omega arith;
        old = λ i h. absurd (omega arith);
        new = λ i a b. absurd (omega arith);
        all = λ l h p q. absurd (j.apart refl l h p q);
      };
    }))
