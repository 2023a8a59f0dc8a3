-- A kind lowered at its class, and a link made known at its class: each is the fact taken. Where the link is known already, the fact
-- says that its end and the new one are one.
-- Assumes nothing.
use mathlib.Core.Path.{◌≡◌, sym, ◌∙◌, ap}
use mathlib.Core.Logic.{◌≢◌, ◌⊎◌, inl, inr, by_cases, ⊎_elim}
use mathlib.Core.List.{[], ◌∷◌}
use Prim.Native.Nat.{ℕ, ◌<◌, ◌≤◌}
use native.Mathlib.Omega.{arith}
use native.Mathlib.Decide.{ℕ_discrete}
use Rattle.kinds.specs.Kinds.{Under}
use Rattle.kinds.specs.Laws.{Lawful}
use Rattle.kinds.proofs.Order.{under_trans, meet_left, meet_right, meet_greatest, under_none}
use Rattle.meaning.specs.Picture.{Picture}
use Rattle.meaning.specs.Picture.Fact.{has_kind, same, leads}
use Rattle.meaning.specs.Form.{Form, unknown}
use Rattle.meaning.specs.Solving.{Smallest, Well, Models, Taken, Refuted}
use Rattle.solver.specs.Steps.{KindSet, LinkSet}
use Rattle.solver.proofs.Join.{class_of}

-- forms with the same class numbers have the same classes
moved : {v : ℕ} (S T : Form) → ((j : ℕ) → T.class j ≡ S.class j) → (j : ℕ) → Smallest v S j → Smallest v T j
moved S T e j h = (h.0, e j ∙ h.1)

moved_end :
    {v : ℕ} (S T : Form) → ((j : ℕ) → T.class j ≡ S.class j) → (x : ℕ)
    → (x ≡ unknown) ⊎ Smallest v S x → (x ≡ unknown) ⊎ Smallest v T x
moved_end S T e x (inl u) = inl u
moved_end S T e x (inr h) = inr (moved S T e x h)

module _ {n : ℕ} {meet : ℕ → ℕ → ℕ} {v : ℕ} {S : Form} (L : Lawful n meet) (w : Well n v S) {x s : ℕ} (hx : x < v) (hs : s < n) where
  abbrev a : ℕ
  a = S.class x

  in_a : S.kind a < n
  in_a = w.kind_in a

  pub kind_taken : {T : Form} → meet (S.kind a) s ≢ 0 → KindSet S a (meet (S.kind a) s) T → Taken n meet v S (has_kind x s ∷ []) T
  kind_taken {T} some t =
      record {
        well =
            record {
              class_le = λ j h. rw (t.class j) (w.class_le j h);
              class_smallest = λ j h. rw (t.class j, t.class (S.class j)) (w.class_smallest j h);
              kind_some = λ j h.
                  by_cases (ℕ_discrete j a) (λ e. rw (e, t.kind_a) some) (λ d. rw (t.kind_rest j d) (w.kind_some j (to_S j h)));
              kind_in = λ j.
                  by_cases (ℕ_discrete j a)
                  (λ e. rw (e, t.kind_a) (L.closed _ _ in_a hs))
                  (λ d. rw (t.kind_rest j d) (w.kind_in j));
              link_smallest = λ j l h k. rw (t.link j l k) (moved_end S T t.class _ (w.link_smallest j l (to_S j h) k));
              kind_rest = λ j d. t.kind_rest j (λ e. d (rw e (to_T a (class_of w x hx)))) ∙ w.kind_rest j (λ h. d (to_T j h));
              link_rest = λ j l d k. t.link j l k ∙ w.link_rest j l (λ h. d (to_T j h)) k;
              class_rest = λ j h. t.class j ∙ w.class_rest j h;
            };
        means = λ P σ placed. (
          λ m.
              let met : Under meet (P.kind (σ a)) (meet (S.kind a) s) = rw t.kind_a at (m.kind a (to_T a (class_of w x hx))) in
              let e : σ x ≡ σ a = m.one x hx ∙ ap σ (t.class x) in
              let in_P : P.kind (σ a) < n = P.in_range (σ a) in (
                record {
                  one = λ j h. m.one j h ∙ ap σ (t.class j);
                  kind = λ j h.
                      by_cases (ℕ_discrete j a)
                      (λ q. rw q (under_trans L _ _ _ in_P (L.closed _ _ in_a hs) in_a met (meet_left L _ _ in_a hs)))
                      (λ d. rw (t.kind_rest j d) at (m.kind j (to_T j h)));
                  link = λ j l h k u. m.link j l (to_T j h) k (rw (t.link j l k) u) ∙ ap σ (t.link j l k);
                },
                (rw e (under_trans L _ _ _ in_P (L.closed _ _ in_a hs) hs met (meet_right L _ _ in_a hs)), tt),
              ),
          λ p.
              let m : Models meet v S P σ = p.0 in
              record {
                one = λ j h. m.one j h ∙ sym (ap σ (t.class j));
                kind = λ j h.
                    by_cases (ℕ_discrete j a)
                    (λ q.
                    rw (q, t.kind_a)
                    (meet_greatest L _ _ _ (P.in_range _) in_a hs (m.kind a (class_of w x hx)) (rw (m.one x hx) at p.1.0)))
                    (λ d. rw (t.kind_rest j d) (m.kind j (to_S j h)));
                link = λ j l h k u. rw (t.link j l k) (m.link j l (to_S j h) k (rw (t.link j l k) at u));
              },
        );
      }
    where
      to_S : (j : ℕ) → Smallest v T j → Smallest v S j
      to_S = moved T S (λ j. sym (t.class j))

      to_T : (j : ℕ) → Smallest v S j → Smallest v T j
      to_T = moved S T t.class

  pub kind_refuted : 1 < n → meet (S.kind a) s ≡ 0 → Refuted n meet v S (has_kind x s ∷ [])
  kind_refuted two none P σ placed m f =
      placed a
      (under_none L _ (omega arith) (P.in_range _)
      (rw none at (meet_greatest L _ _ _ (P.in_range _) in_a hs (m.kind a (class_of w x hx)) (rw (m.one x hx) at f.0))))

-- where two nodes have one class, that they are one is no news
pub same_already :
    {n : ℕ} {meet : ℕ → ℕ → ℕ} {v : ℕ} {S : Form} → Well n v S → {x y : ℕ} → x < v → y < v → S.class x ≡ S.class y
    → Taken n meet v S (same x y ∷ []) S
same_already w {x} {y} hx hy e =
    record {
      well = w;
      means = λ P σ placed. (λ m. (m, (m.one x hx ∙ ap σ e ∙ sym (m.one y hy), tt)), λ m. m.0);
    }

-- the place (j, k) is (a, l), or another
place : {C : Type 0} (a l j k : ℕ) → (j ≡ a → k ≡ l → C) → ((j ≡ a → k ≡ l → ⊥) → C) → C
place a l j k f g =
    by_cases (ℕ_discrete j a) (λ p. by_cases (ℕ_discrete k l) (λ q. f p q) (λ d. g (λ _ q. d q))) (λ d. g (λ p _. d p))

module _
    {n : ℕ} {meet : ℕ → ℕ → ℕ} {v : ℕ} {S : Form} (small : v ≤ unknown) (w : Well n v S)
    {x l y : ℕ} (hx : x < v) (hl : l < 16) (hy : y < v) where
  pub link_taken :
      {T : Form} → S.link (S.class x) l ≡ unknown → LinkSet S (S.class x) l (S.class y) T
      → Taken n meet v S (leads x l y ∷ []) T
  link_taken {T} free t =
      record {
        well =
            record {
              class_le = λ j h. rw (t.class j) (w.class_le j h);
              class_smallest = λ j h. rw (t.class j, t.class (S.class j)) (w.class_smallest j h);
              kind_some = λ j h. rw (t.kind j) (w.kind_some j (to_S j h));
              kind_in = λ j. rw (t.kind j) (w.kind_in j);
              link_smallest = λ j k h b.
                  place (S.class x) l j k
                  (λ p q. rw (p, q, t.link_a) (inr (to_T _ (class_of w y hy))))
                  (λ d. rw (t.link_rest j k b d) (moved_end S T t.class _ (w.link_smallest j k (to_S j h) b)));
              kind_rest = λ j d. t.kind j ∙ w.kind_rest j (λ h. d (to_T j h));
              link_rest = λ j k d b.
                  t.link_rest j k b (λ p _. d (rw p (to_T _ (class_of w x hx)))) ∙ w.link_rest j k (λ h. d (to_T j h)) b;
              class_rest = λ j h. t.class j ∙ w.class_rest j h;
            };
        means = λ P σ placed. (
          λ m.
              let one : (j : ℕ) → j < v → σ j ≡ σ (S.class j) = λ j h. m.one j h ∙ ap σ (t.class j) in
              let end : T.link (S.class x) l ≢ unknown = rw t.link_a (λ e. omega (arith, (class_of w y hy).0, small)) in (
                record {
                  one = one;
                  kind = λ j h. rw (t.kind j) at (m.kind j (to_T j h));
                  link = λ j k h b i.
                      place (S.class x) l j k
                      (λ p q. absurd (i (rw (p, q) free)))
                      (λ d. m.link j k (to_T j h) b (rw (t.link_rest j k b d) i) ∙ ap σ (t.link_rest j k b d));
                },
                (rw (one x hx) (m.link _ l (to_T _ (class_of w x hx)) hl end ∙ ap σ t.link_a ∙ sym (one y hy)), tt),
              ),
          λ p.
              let m : Models meet v S P σ = p.0 in
              record {
                one = λ j h. m.one j h ∙ sym (ap σ (t.class j));
                kind = λ j h. rw (t.kind j) (m.kind j (to_S j h));
                link = λ j k h b i.
                    place (S.class x) l j k
                    (λ e q. rw (e, q, t.link_a) ((rw (m.one x hx) at p.1.0) ∙ m.one y hy))
                    (λ d. rw (t.link_rest j k b d) (m.link j k (to_S j h) b (rw (t.link_rest j k b d) at i)));
              },
        );
      }
    where
      to_S : (j : ℕ) → Smallest v T j → Smallest v S j
      to_S = moved T S (λ j. sym (t.class j))

      to_T : (j : ℕ) → Smallest v S j → Smallest v T j
      to_T = moved S T t.class

-- a known link's end is a node
pub end_inside : {n v : ℕ} {S : Form} → Well n v S → {j l : ℕ} → Smallest v S j → l < 16 → S.link j l ≢ unknown → S.link j l < v
end_inside w {j} {l} h hl known = ⊎_elim (λ u. absurd (known u)) (λ g. g.0) (w.link_smallest j l h hl)

module _
    {n : ℕ} {meet : ℕ → ℕ → ℕ} {v : ℕ} {S : Form} (w : Well n v S)
    {x l : ℕ} (hx : x < v) (hl : l < 16) (known : S.link (S.class x) l ≢ unknown) where
  -- where the link is known it leads to its end
  end_is : (P : Picture n) (σ : ℕ → ℕ) → Models meet v S P σ → P.link (σ x) l ≡ σ (S.link (S.class x) l)
  end_is P σ m = rw (m.one x hx) (m.link (S.class x) l (class_of w x hx) hl known)

  pub known_taken : {y : ℕ} {T : Form} → Taken n meet v S (same (S.link (S.class x) l) y ∷ []) T → Taken n meet v S (leads x l y ∷ []) T
  known_taken t =
      record {
        well = t.well;
        means = λ P σ placed. (
          λ m. let z = (t.means P σ placed).0 m in (z.0, (end_is P σ z.0 ∙ z.1.0, tt)),
          λ m. (t.means P σ placed).1 (m.0, (sym (end_is P σ m.0) ∙ m.1.0, tt)),
        );
      }

  pub known_refuted : {y : ℕ} → Refuted n meet v S (same (S.link (S.class x) l) y ∷ []) → Refuted n meet v S (leads x l y ∷ [])
  known_refuted c P σ placed m f = c P σ placed m (sym (end_is P σ m) ∙ f.0, tt)
