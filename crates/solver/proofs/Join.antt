-- Two classes joined: the form stays well formed, and it means, with the ends of the links known in both made one, what the old form
-- means with the two classes made one. By the definition of `Joined`, place by place.
-- Assumes nothing.
use mathlib.Core.Path.{◌≡◌, refl, sym, ◌∙◌, ap}
use mathlib.Core.Logic.{◌≢◌, ◌⊎◌, inl, inr, by_cases}
use Prim.Native.Nat.{ℕ, ◌<◌, ◌≤◌}
use native.Mathlib.Omega.{arith}
use native.Mathlib.Decide.{ℕ_discrete}
use borrow.Author.Tests.{eq-eqb, ne_eqb}
use Rattle.kinds.specs.Kinds.{Under}
use Rattle.kinds.specs.Laws.{Lawful}
use Rattle.kinds.proofs.Order.{under_trans, meet_left, meet_right, meet_greatest, under_none}
use Rattle.meaning.specs.Picture.{Picture, Placing}
use Rattle.meaning.specs.Form.{Form, unknown}
use Rattle.meaning.specs.Solving.{Smallest, Well, Models}
use Rattle.solver.specs.Steps.{renumber, known_of, Joined}

pub renumber_hit : (b a x : ℕ) → x ≡ b → renumber b a x ≡ a
renumber_hit b a x e = rw (eq-eqb x b e)

pub renumber_miss : (b a x : ℕ) → x ≢ b → renumber b a x ≡ x
renumber_miss b a x d = rw (ne_eqb x b d)

renumber_cases : (b a x : ℕ) (C : ℕ → Type 0) → (x ≡ b → C a) → (x ≢ b → C x) → C (renumber b a x)
renumber_cases b a x C f g =
    by_cases (ℕ_discrete x b) (λ e. rw (renumber_hit b a x e) (f e)) (λ d. rw (renumber_miss b a x d) (g d))

-- a placing that makes a and b one does not see the new number
renumber_placed : (b a x : ℕ) (σ : ℕ → ℕ) → σ a ≡ σ b → σ (renumber b a x) ≡ σ x
renumber_placed b a x σ e = renumber_cases b a x (λ y. σ y ≡ σ x) (λ q. e ∙ ap σ (sym q)) (λ _. refl)

pub known_first : (x y : ℕ) → x ≢ unknown → known_of x y ≡ x
known_first x y d = rw (ne_eqb x unknown d)

pub known_second : (x y : ℕ) → x ≡ unknown → known_of x y ≡ y
known_second x y e = rw (eq-eqb x unknown e)

-- a node's class is a class
pub class_of : {n v : ℕ} {S : Form} → Well n v S → (j : ℕ) → j < v → Smallest v S (S.class j)
class_of w j h = (omega (arith, w.class_le j h), w.class_smallest j h)

-- what is left to be made one: the ends of the links known in both
abbrev pub EndsAgree : Form → ℕ → ℕ → (ℕ → ℕ) → Type 0
EndsAgree S a b σ =
    (l : ℕ) → l < 16 → S.link a l ≢ unknown → S.link b l ≢ unknown → σ (S.link a l) ≡ σ (S.link b l)

-- T is S with the class b joined to the class a, where their kinds meet
pub record Joining (n : ℕ) (meet : ℕ → ℕ → ℕ) (v : ℕ) (S : Form) (a b : ℕ) (T : Form) : Type 0 where
  pub lawful : Lawful n meet
  pub two : 1 < n
  pub small : v ≤ unknown
  pub well : Well n v S
  pub smallest_a : Smallest v S a
  pub smallest_b : Smallest v S b
  pub less : a < b
  pub joined : Joined S a b (meet (S.kind a) (S.kind b)) T

module _ {n : ℕ} {meet : ℕ → ℕ → ℕ} {v : ℕ} {S : Form} {a b : ℕ} {T : Form} (J : Joining n meet v S a b T) where
  abbrev L : Lawful n meet
  L = J.lawful

  abbrev w : Well n v S
  w = J.well

  abbrev t : Joined S a b (meet (S.kind a) (S.kind b)) T
  t = J.joined

  different : a ≢ b
  different = omega (arith, J.less)

  -- the classes are those of S but b
  pub smallest_T : (j : ℕ) → Smallest v S j → j ≢ b → Smallest v T j
  smallest_T j h d = (h.0, t.class j ∙ ap (renumber b a) h.1 ∙ renumber_miss b a j d)

  pub smallest_S : (j : ℕ) → Smallest v T j → Smallest v S j × (j ≢ b)
  smallest_S j h =
      let e : renumber b a (S.class j) ≡ j = sym (t.class j) ∙ h.1 in
      by_cases (ℕ_discrete (S.class j) b)
      (λ q. absurd (different (sym J.smallest_a.1 ∙ ap S.class (sym (renumber_hit b a _ q) ∙ e) ∙ q)))
      (λ d. let c : S.class j ≡ j = sym (renumber_miss b a _ d) ∙ e in ((h.0, c), λ q. d (c ∙ q)))

  a_T : Smallest v T a
  a_T = smallest_T a J.smallest_a different

  -- b is no class any more
  pub b_gone : T.class b ≢ b
  b_gone e = (smallest_S b (J.smallest_b.0, e)).1 refl

  smallest_renumbered : (x : ℕ) → Smallest v S x → Smallest v T (renumber b a x)
  smallest_renumbered x h = renumber_cases b a x (Smallest v T) (λ _. a_T) (λ d. smallest_T x h d)

  unknown_stays : renumber b a unknown ≡ unknown
  unknown_stays = renumber_miss b a unknown (λ e. omega (arith, J.smallest_b.0, J.small))

  known_stays : (x : ℕ) → x ≢ unknown → renumber b a x ≢ unknown
  known_stays x d = renumber_cases b a x (λ y. y ≢ unknown) (λ _ e. omega (arith, J.smallest_a.0, J.small)) (λ _. d)

  known_was : (x : ℕ) → renumber b a x ≢ unknown → x ≢ unknown
  known_was x d e = d (ap (renumber b a) e ∙ unknown_stays)

  zero_stays : renumber b a 0 ≡ 0
  zero_stays = renumber_miss b a 0 (λ e. omega (arith, J.less))

  -- the end of a link, renumbered
  end_T : (x : ℕ) → (x ≡ unknown) ⊎ Smallest v S x → (renumber b a x ≡ unknown) ⊎ Smallest v T (renumber b a x)
  end_T x (inl u) = inl (ap (renumber b a) u ∙ unknown_stays)
  end_T x (inr h) = inr (smallest_renumbered x h)

  end_known :
      (x y : ℕ) → (x ≡ unknown) ⊎ Smallest v S x → (y ≡ unknown) ⊎ Smallest v S y
      → (known_of x y ≡ unknown) ⊎ Smallest v S (known_of x y)
  end_known x y p q =
      by_cases (ℕ_discrete x unknown) (λ u. rw (known_second x y u) q) (λ d. rw (known_first x y d) p)

  pub joined_well : meet (S.kind a) (S.kind b) ≢ 0 → Well n v T
  joined_well some =
      record {
        class_le = λ j h.
            rw (t.class j)
            (renumber_cases b a (S.class j) (λ x. x ≤ j) (λ e. omega (arith, w.class_le j h, J.less)) (λ _. w.class_le j h));
        class_smallest = λ j h. rw (t.class j) (smallest_renumbered (S.class j) (class_of w j h)).1;
        kind_some = λ j h.
            let g : Smallest v S j × (j ≢ b) = smallest_S j h in
            by_cases (ℕ_discrete j a)
            (λ e. rw (e, t.kind_a) some)
            (λ d. rw (t.kind_rest j d g.1) (w.kind_some j g.0));
        kind_in = λ j.
            by_cases (ℕ_discrete j a)
            (λ e. rw (e, t.kind_a) (L.closed _ _ (w.kind_in a) (w.kind_in b)))
            (λ d.
            by_cases (ℕ_discrete j b)
            (λ e. rw (e, t.kind_b) (omega (arith, J.two)))
            (λ c. rw (t.kind_rest j d c) (w.kind_in j)));
        link_smallest = λ j l h k.
            let g : Smallest v S j × (j ≢ b) = smallest_S j h in
            by_cases (ℕ_discrete j a)
            (λ e.
            rw (e, t.link_a l k)
            (end_T _ (end_known _ _ (w.link_smallest a l J.smallest_a k) (w.link_smallest b l J.smallest_b k))))
            (λ d. rw (t.link_rest j l k d g.1) (end_T _ (w.link_smallest j l g.0 k)));
        kind_rest = λ j d.
            by_cases (ℕ_discrete j b)
            (λ e. rw (e, t.kind_b) refl)
            (λ c. t.kind_rest j (λ e. d (rw e a_T)) c ∙ w.kind_rest j (λ h. d (smallest_T j h c)));
        link_rest = λ j l d k.
            by_cases (ℕ_discrete j b)
            (λ e. rw (e, t.link_b l k) refl)
            (λ c.
            t.link_rest j l k (λ e. d (rw e a_T)) c
            ∙ ap (renumber b a) (w.link_rest j l (λ h. d (smallest_T j h c)) k)
            ∙ zero_stays);
        class_rest = λ j h. t.class j ∙ ap (renumber b a) (w.class_rest j h) ∙ zero_stays;
      }

  module _ (P : Picture n) (σ : ℕ → ℕ) where
    -- the two classes are one, in a model of T
    pub joined_one : Models meet v T P σ → σ a ≡ σ b
    joined_one m =
        sym (m.one b J.smallest_b.0 ∙ ap σ (t.class b ∙ renumber_hit b a (S.class b) J.smallest_b.1))

    pub joined_use : Models meet v T P σ → EndsAgree S a b σ → Models meet v S P σ
    joined_use m agree =
        let e : σ a ≡ σ b = joined_one m in
        let kind_ab : Under meet (P.kind (σ a)) (meet (S.kind a) (S.kind b)) = rw t.kind_a at (m.kind a a_T) in
        let in_a : S.kind a < n = w.kind_in a in
        let in_b : S.kind b < n = w.kind_in b in
        -- a known link of the joined class
        let link_ab :
        (l : ℕ) → l < 16 → known_of (S.link a l) (S.link b l) ≢ unknown
        → P.link (σ a) l ≡ σ (known_of (S.link a l) (S.link b l)) =
        λ l h k.
        let q : T.link a l ≡ renumber b a (known_of (S.link a l) (S.link b l)) = t.link_a l h in
        m.link a l a_T h (rw q (known_stays _ k)) ∙ ap σ q ∙ renumber_placed b a _ σ e in
        record {
          one = λ j h. m.one j h ∙ ap σ (t.class j) ∙ renumber_placed b a _ σ e;
          kind = λ j h.
              by_cases (ℕ_discrete j a)
              (λ q. rw q (under_trans L _ _ _ (P.in_range _) (L.closed _ _ in_a in_b) in_a kind_ab (meet_left L _ _ in_a in_b)))
              (λ d.
              by_cases (ℕ_discrete j b)
              (λ q.
              rw (q, ← e)
              (under_trans L _ _ _ (P.in_range _) (L.closed _ _ in_a in_b) in_b kind_ab (meet_right L _ _ in_a in_b)))
              (λ c. rw (t.kind_rest j d c) at (m.kind j (smallest_T j h c))));
          link = λ j l h g k.
              by_cases (ℕ_discrete j a)
              (λ q.
              let f : known_of (S.link a l) (S.link b l) ≡ S.link a l = known_first _ (S.link b l) (rw q at k) in
              rw q (rw f at (link_ab l g (rw f (rw q at k)))))
              (λ d.
              by_cases (ℕ_discrete j b)
              (λ q. rw (q, ← e) (at_b l g (rw q at k) (link_ab l g)))
              (λ c.
              let r : T.link j l ≡ renumber b a (S.link j l) = t.link_rest j l g d c in
              m.link j l (smallest_T j h c) g (rw r (known_stays _ k)) ∙ ap σ r ∙ renumber_placed b a _ σ e));
        }
      where
        -- b's link is a's where a has one, and then the two ends agree
        at_b :
            (l : ℕ) → l < 16 → S.link b l ≢ unknown
            → (known_of (S.link a l) (S.link b l) ≢ unknown → P.link (σ a) l ≡ σ (known_of (S.link a l) (S.link b l)))
            → P.link (σ a) l ≡ σ (S.link b l)
        at_b l g k f =
            by_cases (ℕ_discrete (S.link a l) unknown)
            (λ u.
            let r : known_of (S.link a l) (S.link b l) ≡ S.link b l = known_second _ _ u in
            rw r at (f (rw r k)))
            (λ d.
            let r : known_of (S.link a l) (S.link b l) ≡ S.link a l = known_first _ _ d in
            (rw r at (f (rw r d))) ∙ agree l g d k)

    pub joined_make : Models meet v S P σ → σ a ≡ σ b → Models meet v T P σ
    joined_make m e =
        record {
          one = λ j h. m.one j h ∙ sym (ap σ (t.class j) ∙ renumber_placed b a _ σ e);
          kind = λ j h.
              let g : Smallest v S j × (j ≢ b) = smallest_S j h in
              by_cases (ℕ_discrete j a)
              (λ q.
              rw (q, t.kind_a)
              (meet_greatest L _ _ _ (P.in_range _) (w.kind_in a) (w.kind_in b) (m.kind a J.smallest_a)
              (rw e (m.kind b J.smallest_b))))
              (λ d. rw (t.kind_rest j d g.1) (m.kind j g.0));
          link = λ j l h k u.
              let g : Smallest v S j × (j ≢ b) = smallest_S j h in
              by_cases (ℕ_discrete j a)
              (λ q.
              rw (q, t.link_a l k)
              (at_a l k (known_was _ (rw (q, t.link_a l k) at u)) ∙ sym (renumber_placed b a _ σ e)))
              (λ d.
              let r : T.link j l ≡ renumber b a (S.link j l) = t.link_rest j l k d g.1 in
              rw r (m.link j l g.0 k (known_was _ (rw r at u)) ∙ sym (renumber_placed b a _ σ e)));
        }
      where
        at_a :
            (l : ℕ) → l < 16 → known_of (S.link a l) (S.link b l) ≢ unknown
            → P.link (σ a) l ≡ σ (known_of (S.link a l) (S.link b l))
        at_a l k u =
            by_cases (ℕ_discrete (S.link a l) unknown)
            (λ i.
            let r : known_of (S.link a l) (S.link b l) ≡ S.link b l = known_second _ _ i in
            rw (r, e) (m.link b l J.smallest_b k (rw r at u)))
            (λ d.
            let r : known_of (S.link a l) (S.link b l) ≡ S.link a l = known_first _ _ d in
            rw r (m.link a l J.smallest_a k d))

-- what follows for the ends, where the two classes are one
pub ends_agree :
    {n : ℕ} {meet : ℕ → ℕ → ℕ} {v : ℕ} {S : Form} {a b : ℕ} → Smallest v S a → Smallest v S b
    → (P : Picture n) (σ : ℕ → ℕ) → Models meet v S P σ → σ a ≡ σ b → EndsAgree S a b σ
ends_agree {a = a} {b = b} ha hb P σ m e l h ka kb =
    sym (m.link a l ha h ka) ∙ ap (λ x. P.link x l) e ∙ m.link b l hb h kb

-- no picture has two classes one whose kinds have nothing in common
pub joined_clash :
    {n : ℕ} {meet : ℕ → ℕ → ℕ} {v : ℕ} {S : Form} {a b : ℕ} → Lawful n meet → 1 < n → Well n v S → Smallest v S a → Smallest v S b
    → meet (S.kind a) (S.kind b) ≡ 0
    → (P : Picture n) (σ : ℕ → ℕ) → Placing P σ → Models meet v S P σ → σ a ≡ σ b → ⊥
joined_clash {a = a} {b = b} L two w ha hb none P σ placed m e =
    placed a
    (under_none L _ (omega arith) (P.in_range _)
    (rw none at (meet_greatest L _ _ _ (P.in_range (σ a)) (w.kind_in a) (w.kind_in b) (m.kind a ha) (rw e (m.kind b hb)))))
