-- Marks on a rule's joints. What is marked is reached, as each step marks a tied joint or follows a row of the table, in which only facts are
-- noted; and where the row of every marked joint is followed, what is reached is marked, by induction on how it is reached.
-- Assumes nothing.
use mathlib.Core.Path.{◌≡◌, refl, sym, ap, ◌∙◌, subst}
use mathlib.Core.Logic.{◌≢◌, by_cases}
use mathlib.Core.List.Memᴰ
use mathlib.Core.List.{List, Memᴰ}
use Prim.Native.Nat.{ℕ, ◌+◌, ◌^◌, ◌<◌}
use native.Mathlib.Omega.{arith}
use native.Mathlib.Nat.{not-suc-le-zero}
use native.Mathlib.Decide.{ℕ_discrete}
use lib.ListN.{length, get_or, set, replicate, length-set}
use lib.Seq.{get_or-set_same, get_or-set_other}
use lib.Bits.{bit_or, or_lt}
use lib.Pow.{pow-lt}
use Rattle.meaning.specs.declared.RuleJoint.{RuleJoint}
use Rattle.meaning.specs.declared.Tie.{Tie}
use Rattle.meaning.specs.Picture.{Fact}
use Rattle.meaning.specs.Picture.Fact.{leads}
use Rattle.meaning.specs.Rule.{Reached, rule_joint}
use Rattle.meaning.specs.Rule.Reached.{by_tie, by_link}
use Rattle.packets.specs.Packet.{byte, ties, tie_at, fact_count}
use Rattle.packets.specs.Facts.{tie_of, rule_of}
use Rattle.reach.specs.Marking.{nth_fact, bit, Marked, WithMark, Lead, WithLead, Leads, Sound, TiesMarked, Closed}
use Rattle.reach.proofs.Bits.{no_bit, own_bit, other_bit, or_left, or_right, or_same, or_either, or_grows}
use Rattle.runs.proofs.Each.{among, member}
use Rattle.runs.proofs.Zeros.{zeros_at}

pub with_bit : (m j : ℕ) → m < 2 ^ 32 → j < 32 → WithMark m j (bit_or m (2 ^ j))
with_bit m j small h =
    record {
      here = or_right m (2 ^ j) j (own_bit j);
      others = λ k d. or_same m (2 ^ j) k (other_bit j k d);
      grows = or_grows m (2 ^ j);
      bits = or_lt 32 m (2 ^ j) small (pow-lt h);
    }

module _ {m j r : ℕ} (w : WithMark m j r) where
  pub with_keeps : (k : ℕ) → Marked m k → Marked r k
  with_keeps k e = by_cases (ℕ_discrete k j) (λ q. subst (λ (x : ℕ). Marked r x) (sym q) w.here) (λ d. w.others k d ∙ e)

  -- a mark is j's or was there
  pub with_either : {A : Type 0} (k : ℕ) → Marked r k → (k ≡ j → A) → (Marked m k → A) → A
  with_either k e f g = by_cases (ℕ_discrete k j) f (λ d. g (sym (w.others k d) ∙ e))

  -- where j was not marked, the number is larger
  pub with_more : (Marked m j → ⊥) → m < r
  with_more x = by_cases (ℕ_discrete m r) (λ e. absurd (x (subst (λ (y : ℕ). Marked y j) (sym e) w.here))) (λ d. omega (arith, w.grows))

  pub with_sound : (p : List ℕ) → Reached (rule_of p) (rule_joint j) → Sound p m → Sound p r
  with_sound p h s =
      record {
        reached = λ k e.
            with_either k e (λ q. subst (λ (x : ℕ). Reached (rule_of p) (rule_joint x)) (sym q) h) (s.reached k);
      }

-- the mark of c put into row a
pub with_lead : (s : List ℕ) (a c : ℕ) {r : ℕ} → a < length s → WithMark (get_or s a 0) c r → WithLead a c s (set s a r)
with_lead s a c {r} h w =
    record {
      size = length-set s a r;
      here = subst (λ (x : ℕ). Marked x c) (sym same) w.here;
      keeps = λ i j e.
          by_cases (ℕ_discrete i a)
          (λ q. subst (λ (x : ℕ). Lead (set s a r) x j) (sym q)
          (subst (λ (x : ℕ). Marked x j) (sym same) (with_keeps w j (subst (λ (x : ℕ). Lead s x j) q e))))
          (λ d. subst (λ (x : ℕ). Marked x j) (sym (other i d)) e);
      others = λ i j x e.
          by_cases (ℕ_discrete i a)
          (λ q. subst (λ (y : ℕ). Lead s y j) (sym q)
          (with_either w j (subst (λ (y : ℕ). Marked y j) same (subst (λ (y : ℕ). Lead (set s a r) y j) q e)) (λ z. absurd (x q z)) (λ z. z)))
          (λ d. subst (λ (y : ℕ). Marked y j) (other i d) e);
    }
  where
    same : get_or (set s a r) a 0 ≡ r
    same = get_or-set_same s a r 0 h

    other : (i : ℕ) → i ≢ a → get_or (set s a r) i 0 ≡ get_or s i 0
    other i d = get_or-set_other s a i r 0 d

module _ (p : List ℕ) where
  -- nothing is marked, and nothing noted
  pub none_sound : Sound p 0
  none_sound = record { reached = λ j h. absurd (omega (arith, h, no_bit j)) }

  pub leads_none : Leads p 0 (replicate 32 0)
  leads_none =
      record {
        size = refl;
        noted = λ i h. absurd (not-suc-le-zero h);
        sound = λ a c e. absurd (omega (arith, e, ap (λ (x : ℕ). bit x c) (zeros_at 32 a), no_bit c));
      }

  -- the i-th fact is "a.l is c" and is noted
  pub leads_link :
      {s t : List ℕ} {a c : RuleJoint} {l : ℕ} (i : ℕ) → i < fact_count p → Leads p i s → nth_fact p i ≡ leads a l c →
      WithLead a.0 c.0 s t → Leads p (i + 1) t
  leads_link {s} {t} {a} {c} {l} i h q e w =
      record {
        size = w.size ∙ q.size;
        noted = λ k b a' c' l' e'.
            by_cases (ℕ_discrete k i)
            (λ z.
            let f = sym e' ∙ ap (nth_fact p) z ∙ e in
            let x : a.0 ≡ a'.0 = cc in
            let y : c.0 ≡ c'.0 = cc in
            subst (λ (j : ℕ). Lead t j c'.0) x (subst (λ (j : ℕ). Lead t a.0 j) y w.here))
            (λ d. w.keeps a'.0 c'.0 (q.noted k (omega arith) a' c' l' e'));
        sound = λ x y m r.
            by_cases (ℕ_discrete x a.0)
            (λ z.
            by_cases (ℕ_discrete y c.0)
            (λ u. subst (λ (j : ℕ). Reached (rule_of p) (rule_joint j)) (sym u) (by_link here (subst (λ (j : ℕ). Reached (rule_of p) (rule_joint j)) z r)))
            (λ d. q.sound x y (w.others x y (λ f g. d g) m) r))
            (λ d. q.sound x y (w.others x y (λ f g. d f) m) r);
      }
    where
      nth : Memᴰ (nth_fact p i) (rule_of p).facts
      nth = Memᴰ.cast (ap (nth_fact p) (omega arith)) (member (nth_fact p) 0 (fact_count p) i h)

      here : Memᴰ (leads a l c) (rule_of p).facts
      here = subst (λ (f : Fact RuleJoint). Memᴰ f (rule_of p).facts) e nth

  -- the i-th fact leads nowhere
  pub leads_skip :
      {s : List ℕ} (i : ℕ) → Leads p i s → ((a c : RuleJoint) (l : ℕ) → nth_fact p i ≡ leads a l c → ⊥) → Leads p (i + 1) s
  leads_skip i q x =
      record {
        size = q.size;
        noted = λ k b a c l e. by_cases (ℕ_discrete k i) (λ z. absurd (x a c l (ap (nth_fact p) (sym z) ∙ e))) (λ d. q.noted k (omega arith) a c l e);
        sound = q.sound;
      }

  -- the i-th tie
  pub tie_reached : (i : ℕ) → i < ties p → Reached (rule_of p) (rule_joint (byte p (tie_at i)))
  tie_reached i h =
      by_tie {t = tie_of p (tie_at i)}
      (Memᴰ.cast (ap (λ (k : ℕ). tie_of p (tie_at k)) (omega arith)) (member (λ k. tie_of p (tie_at k)) 0 (ties p) i h))

  -- what is reached is marked
  pub complete : {m : ℕ} → Closed p m → (j : RuleJoint) → Reached (rule_of p) j → Marked m j.0
  complete {m} z j (by_tie {t} i) =
      let x = among (λ k. tie_of p (tie_at k)) 0 (ties p) i in
      subst (λ (s : Tie). Marked m s.rule.0) (sym x.is) (z.ties x.at (omega arith))
  complete z j (by_link {a} {c} {l} i r) =
      let x = among (nth_fact p) 0 (fact_count p) i in
      z.follows x.at (omega arith) a c l (sym x.is) (complete z a r)

-- the rows of the followed joints, all of which are marked, are marked; and only reached joints are
pub record Following (p to : List ℕ) (marks followed : ℕ) : Type 0 where
  pub noted : Leads p (fact_count p) to
  pub sound : Sound p marks
  pub ties : TiesMarked p marks
  pub inside : (j : ℕ) → Marked followed j → Marked marks j
  pub rows : (a c : ℕ) → Marked followed a → Lead to a c → Marked marks c

module _ {p to : List ℕ} where
  pub follow_begins : {tied : ℕ} → Leads p (fact_count p) to → Sound p tied → TiesMarked p tied → Following p to tied 0
  follow_begins n s t =
      record {
        noted = n;
        sound = s;
        ties = t;
        inside = λ j e. absurd (omega (arith, e, no_bit j));
        rows = λ a c e l. absurd (omega (arith, e, no_bit a));
      }

  module _ {marks followed : ℕ} (f : Following p to marks followed) where
    -- the row of j, which is marked, is followed
    pub follow_goes_on :
        {j more : ℕ} → Marked marks j → WithMark followed j more → Following p to (bit_or marks (get_or to j 0)) more
    follow_goes_on {j} {more} m w =
        let row = get_or to j 0 in
        record {
          noted = f.noted;
          sound = record { reached = λ k e. or_either marks row k e (f.sound.reached k) (λ l. f.noted.sound j k l (f.sound.reached j m)) };
          ties = λ i h. or_left marks row _ (f.ties i h);
          inside = λ k e. or_left marks row k (with_either w k e (λ z. subst (λ (x : ℕ). Marked marks x) (sym z) m) (f.inside k));
          rows = λ a c e l.
              with_either w a e (λ z. or_right marks row c (subst (λ (x : ℕ). Lead to x c) z l)) (λ z. or_left marks row c (f.rows a c z l));
        }

    -- the row of every marked joint is followed
    pub follow_ends : followed ≡ marks → Closed p marks
    follow_ends e =
        record {
          sound = f.sound;
          ties = f.ties;
          follows = λ i h a c l q m.
              f.rows a.0 c.0 (subst (λ (x : ℕ). Marked x a.0) (sym e) m) (f.noted.noted i h a c l q);
        }
