-- The steps of a visit, with the text that it puts, the joints that it marks and the room that is left: a link that is not known, one that
-- is, the links one after the other, and a joint with its head and its bracket.
-- Assumes nothing.
use mathlib.Core.Path.{◌≡◌, refl, sym, ap, subst, ◌∙◌}
use mathlib.Core.Logic.{◌≢◌}
use mathlib.Core.Bool.{Bool, true, false, cond}
use mathlib.Core.List.{List, [], ◌∷◌, ◌++◌, cons≢nil}
use Prim.Native.Nat.{ℕ, suc, ◌+◌, ◌*◌, ◌<◌, ◌≤◌}
use native.Mathlib.Omega.{arith}
use lib.Dec.{eqb}
use lib.ListN.{length, set}
use borrow.Author.Tests.{eqb-true, ne_eqb}
use Rattle.meaning.specs.Form.{Form, unknown, links_from}
use Rattle.meaning.specs.Picture.Fact.{leads}
use Rattle.terms.specs.Term.{Term, term_text, closing}
use Rattle.writing.specs.Putting.{Room, Put}
use Rattle.writing.proofs.Putting.{none_put, left_out}
use Rattle.term_writing.specs.Tree.{Walk, link_terms, term_from}
use Rattle.term_writing.specs.Visiting.{text_room, link_room, head_text, link_text, arguments_text, argument_text, sign_before}
use Rattle.term_writing.specs.Visiting.{closing_text, Unmarked, unmarked, Through, Onward, Visited, Told}
use Rattle.term_writing.proofs.Texts.{put_as, both_put, head_short, link_short, none_or_all, no_arguments, arguments_more, joint_text}
use Rattle.term_writing.proofs.Visits.{one_marked, none_visited, link_visited, joint_visited, nothing_onward, onward_visited}

-- a joint that is not marked has its 12 bytes
pub link_room_lem :
    (front l at : ℕ) (to : List ℕ) (seen : List Bool) {c : ℕ} → l < 16 → c < length seen → Unmarked seen c → at + 12 * unmarked seen ≤ text_room →
    length to ≡ text_room → Room (link_text front l) at to
link_room_lem front l at to seen {c} small inside free room size = omega (arith, link_short front l (omega arith), one_marked seen c inside free)

pub link_left :
    {front l at next : ℕ} {to mid : List ℕ} (seen : List Bool) → l < 16 → Put (link_text front l) at to mid next →
    at + 12 * unmarked seen ≤ text_room → next + 12 * unmarked seen ≤ text_room + link_room
link_left {front} {l} seen small p room = omega (arith, link_short front l (omega arith), p.ends)

module _ (seen : List Bool) {j : ℕ} (inside : j < length seen) (free : Unmarked seen j) where
  pub head_room :
      (s at : ℕ) (to : List ℕ) → j < 64 → s < 64 → at + 12 * unmarked seen ≤ text_room + link_room → length to ≡ text_room → Room (head_text j s) at to
  head_room s at to hj hs room size = omega (arith, head_short j s (omega arith) (omega arith), one_marked seen j inside free)

  pub head_left :
      {s at from : ℕ} {to mid : List ℕ} → j < 64 → s < 64 → Put (head_text j s) at to mid from →
      from + 12 * unmarked (set seen j true) + 6 ≤ at + 12 * unmarked seen
  head_left {s} hj hs p = omega (arith, head_short j s (omega arith) (omega arith), one_marked seen j inside free, p.ends)

pub closing_short : (from at : ℕ) → length (closing_text from at) ≤ 1
closing_short from at = none_or_all at from (closing ∷ [])

-- a list of known links that is empty says that none of them is known
first_unknown : (S : Form) (j l count : ℕ) → links_from S j l (suc count) ≡ [] → (S.link j l ≡ unknown) × (links_from S j (suc l) count ≡ [])
unfolding links_from
first_unknown S j l count e = by_test (eqb (S.link j l) unknown) refl e
  where
    by_test : (b : Bool) → eqb (S.link j l) unknown ≡ b →
        cond b (links_from S j (suc l) count) (leads j l (S.link j l) ∷ links_from S j (suc l) count) ≡ [] →
        (S.link j l ≡ unknown) × (links_from S j (suc l) count ≡ [])
    by_test true q f = (eqb-true _ _ q, f)
    by_test false q f = absurd (cons≢nil f)

four_unknown : (S : Form) (j l : ℕ) → links_from S j l 4 ≡ [] →
    (S.link j l ≡ unknown) × (S.link j (l + 1) ≡ unknown) × (S.link j (l + 1 + 1) ≡ unknown) × (S.link j (l + 1 + 1 + 1) ≡ unknown)
four_unknown S j l e =
    let a = first_unknown S j l 3 e in
    let b = first_unknown S j (suc l) 2 a.1 in
    let c = first_unknown S j (suc (suc l)) 1 b.1 in
    let d = first_unknown S j (suc (suc (suc l))) 0 c.1 in
    let one : suc l ≡ l + 1 = omega arith in
    let two : suc (suc l) ≡ l + 1 + 1 = omega arith in
    let three : suc (suc (suc l)) ≡ l + 1 + 1 + 1 = omega arith in
    (a.0, ap (S.link j) (sym one) ∙ b.0, ap (S.link j) (sym two) ∙ c.0, ap (S.link j) (sym three) ∙ d.0)

module _ (S : Form) where
  pub unknown_told :
      {c : ℕ} (front l n at : ℕ) (t : Term) (to : List ℕ) (seen : List Bool) → c ≡ unknown →
      Told (argument_text front l c t) (Onward S c) n 0 at to to seen seen at
  unknown_told front l n at t to seen e =
      record { put = left_out (link_text front l ++ term_text t) at to e; visited = nothing_onward S seen e; room = omega arith }

  pub known_told :
      (from : ℕ) {c l b below at front next end : ℕ} {to mid told : List ℕ} {seen after : List Bool} → c ≢ unknown → l < 16 → suc b ≡ below →
      front ≡ sign_before from at → Put (link_text front l) at to mid next →
      Told (term_text (term_from S (suc b) c)) (Walk S c) (suc b) link_room next mid told seen after end →
      Told (argument_text (sign_before from at) l c (term_from S below c)) (Onward S c) below 0 at to told seen after end
  known_told from {c} {l} {b} {below} {at} {front} {next} {end} {to} {mid} {told} {seen} {after} k small e q p t =
      let said : link_text front l ++ term_text (term_from S (suc b) c) ≡ argument_text (sign_before from at) l c (term_from S below c) =
      rw (ne_eqb c unknown k, q, e) in
      record {
        put = put_as said (both_put p t.put);
        visited = onward_visited S seen k (subst (λ (n : ℕ). Visited (Walk S c) n seen after) e t.visited);
        room = omega (arith, t.room, p.ends, link_short front l (omega arith));
      }

  module _ (below j : ℕ) where
    abbrev pub text_below : ℕ → List ℕ
    text_below k = arguments_text (link_terms S (λ c. term_from S below c) j 0 k)

    pub none_told : (from : ℕ) (to : List ℕ) (seen : List Bool) → Told (text_below 0) (Through S j 0) (suc below) 0 from to to seen seen from
    none_told from to seen =
        record {
          put = put_as (no_arguments S (λ c. term_from S below c) j) (none_put from to);
          visited = none_visited S j (suc below) seen;
          room = omega arith;
        }

    pub more_told :
        {k c from at end : ℕ} {to mid told : List ℕ} {seen met after : List Bool} → k < 16 → c ≡ S.link j k →
        Told (text_below k) (Through S j k) (suc below) 0 from to mid seen met at →
        Told (argument_text (sign_before from at) k c (term_from S below c)) (Onward S c) below 0 at mid told met after end →
        Told (text_below (k + 1)) (Through S j (k + 1)) (suc below) 0 from to told seen after end
    more_told {k} {c} {from} {at} small link t u =
        record {
          put = put_as (arguments_more S (λ c. term_from S below c) j k from at link t.put.ends) (both_put t.put u.put);
          visited = link_visited S j k small t.visited link u.visited;
          room = omega (arith, t.room, u.room);
        }

    -- as far as another number says
    pub told_at :
        {k m from at : ℕ} {to mid : List ℕ} {seen met : List Bool} → k ≡ m →
        Told (text_below k) (Through S j k) (suc below) 0 from to mid seen met at →
        Told (text_below m) (Through S j m) (suc below) 0 from to mid seen met at
    told_at {from = from} {at = at} {to = to} {mid = mid} {seen = seen} {met = met} e t =
        subst (λ (i : ℕ). Told (text_below i) (Through S j i) (suc below) 0 from to mid seen met at) e t

    -- a link that is not known, and four of them
    unknown_more :
        {k from at : ℕ} {to mid : List ℕ} {seen met : List Bool} → k < 16 → S.link j k ≡ unknown →
        Told (text_below k) (Through S j k) (suc below) 0 from to mid seen met at →
        Told (text_below (k + 1)) (Through S j (k + 1)) (suc below) 0 from to mid seen met at
    unknown_more {k} {from} {at} {to} {mid} {seen} {met} small e t =
        more_told small refl t (unknown_told (sign_before from at) k below at (term_from S below (S.link j k)) mid met e)

    pub four_told :
        {q from at : ℕ} {to mid : List ℕ} {seen met : List Bool} → q < 4 → links_from S j (4 * q) 4 ≡ [] →
        Told (text_below (4 * q)) (Through S j (4 * q)) (suc below) 0 from to mid seen met at →
        Told (text_below (4 * (q + 1))) (Through S j (4 * (q + 1))) (suc below) 0 from to mid seen met at
    four_told {q} {from} {at} {to} {mid} {seen} {met} small none t =
        let u = four_unknown S j (4 * q) none in
        let three = unknown_more (omega arith) u.2 (unknown_more (omega arith) u.1 (unknown_more (omega arith) u.0 t)) in
        let e : 4 * q + 1 + 1 + 1 + 1 ≡ 4 * (q + 1) = omega arith in
        told_at e (unknown_more (omega arith) u.3 three)

    pub joint_told :
        {s at from inner end : ℕ} {to mid told closed : List ℕ} {seen after : List Bool} → j < length seen → Unmarked seen j → j < 64 → s < 64 → s ≡ S.kind j →
        Put (head_text j s) at to mid from →
        Told (text_below 16) (Through S j 16) (suc below) 0 from mid told (set seen j true) after inner →
        Put (closing_text from inner) inner told closed end →
        Told (term_text (term_from S (suc below) j)) (Walk S j) (suc below) link_room at to closed seen after end
    joint_told {s} {at} {from} {inner} {end} {to} {mid} {told} {closed} {seen} {after} inside free hj hs e p t q =
        let whole : head_text j s ++ (text_below 16 ++ closing_text from inner) ≡ term_text (term_from S (suc below) j) =
        ap (λ (i : ℕ). head_text j i ++ (text_below 16 ++ closing_text from inner)) e ∙ joint_text S below j from inner t.put.ends in
        record {
          put = put_as whole (both_put p (both_put t.put q));
          visited = joint_visited S j seen inside free t.visited;
          room = omega (arith, t.room, q.ends, closing_short from inner, head_left seen inside free hj hs p);
        }
