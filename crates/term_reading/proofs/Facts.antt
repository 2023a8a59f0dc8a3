-- Facts put one behind the other, as long as there is room.
-- Assumes nothing.
use mathlib.Core.Path.{◌≡◌, refl, sym, ap, ◌∙◌, subst}
use mathlib.Core.List.{List, [], ◌∷◌, ◌++◌, map, map-append, append-nil, append_assoc}
use Prim.Native.Nat.{ℕ, ◌+◌, ◌*◌, ◌<◌, ◌≤◌}
use native.Mathlib.Omega.{arith}
use native.Mathlib.Nat.{add-zero}
use lib.ListN.{length, take, length-append}
use Rattle.std.specs.Prelude.{Option, Some, None}
use Rattle.meaning.specs.Picture.{Fact}
use Rattle.meaning.specs.Picture.Fact.{has_kind, leads}
use Rattle.packets.specs.FactsPacket.{all_bytes}
use Rattle.writing.specs.Putting.{Put, form_bytes}
use Rattle.writing.proofs.Putting.{bytes_append}
use Rattle.term_reading.specs.ReadTerm.{most_facts}
use Rattle.term_reading.specs.Reading.{low, low_bytes, Said, PutFact, lead_facts}

low_append : (fs gs : List (Fact ℕ)) → low_bytes (fs ++ gs) ≡ low_bytes fs ++ low_bytes gs
low_append fs gs = ap (map low) (bytes_append fs gs) ∙ map-append low (form_bytes fs) (form_bytes gs)

pub nothing_said : (k : ℕ) (s : List ℕ) → Said [] k s k s
unfolding all_bytes
nothing_said k s = record { counted = sym (add-zero k); bytes = λ _. sym (append-nil (take (6 + 4 * k) s)) }

-- some facts, then others
pub said_then : {fs gs : List (Fact ℕ)} {k l m : ℕ} {s t u : List ℕ} → Said fs k s l t → Said gs l t m u → Said (fs ++ gs) k s m u
said_then {fs = fs} {gs = gs} {k = k} {l = l} {m = m} {s = s} {t = t} {u = u} a b =
    record {
      counted = omega (arith, a.counted, b.counted, length-append fs gs);
      bytes =
          λ few.
          b.bytes few
          ∙ ap (λ (x : List ℕ). x ++ low_bytes gs) (a.bytes (omega (arith, b.counted, few)))
          ∙ append_assoc (take (6 + 4 * k) s) (low_bytes fs) (low_bytes gs)
          ∙ ap (λ (x : List ℕ). take (6 + 4 * k) s ++ x) (sym (low_append fs gs));
    }

-- one fact, by its bytes
one_said : (f : Fact ℕ) (bytes : List ℕ) {k m : ℕ} {s t : List ℕ} → low_bytes (f ∷ []) ≡ bytes → PutFact bytes k s m t → Said (f ∷ []) k s m t
one_said f bytes {k = k} {m = m} {s = s} {t = t} e p =
    record {
      counted = p.counted;
      bytes =
          λ few.
          ap (λ (c : ℕ). take (6 + 4 * c) t) p.counted ∙ p.put (omega (arith, p.counted, few))
          ∙ ap (λ (x : List ℕ). take (6 + 4 * k) s ++ x) (sym e);
    }

pub kind_said : (a x : ℕ) {k m : ℕ} {s t : List ℕ} → PutFact (1 ∷ low a ∷ low x ∷ low 0 ∷ []) k s m t → Said (has_kind a x ∷ []) k s m t
unfolding all_bytes
kind_said a x p = one_said (has_kind a x) (1 ∷ low a ∷ low x ∷ low 0 ∷ []) refl p

link_said : (a l c : ℕ) {k m : ℕ} {s t : List ℕ} → PutFact (3 ∷ low a ∷ low l ∷ low c ∷ []) k s m t → Said (leads a l c ∷ []) k s m t
unfolding all_bytes
link_said a l c p = one_said (leads a l c) (3 ∷ low a ∷ low l ∷ low c ∷ []) refl p

-- a fact without room, and one with room
pub no_room : (bytes : List ℕ) (i : ℕ) (s : List ℕ) → most_facts ≤ i → PutFact bytes i s (i + 1) s
no_room bytes i s h = record { counted = refl; put = λ l. absurd (both_ways l) }
  where
    both_ways : i < most_facts → ⊥
    both_ways l = omega (arith, h, l)

pub with_room : {bytes : List ℕ} {i : ℕ} {s t : List ℕ} {end : ℕ} → length bytes ≡ 4 → Put bytes (6 + 4 * i) s t end → PutFact bytes i s (i + 1) t
with_room {bytes = bytes} {i = i} {s = s} {t = t} {end = end} four p =
    record {
      counted = refl;
      put = λ _. ap (λ (k : ℕ). take k t) (let e : 6 + 4 * (i + 1) ≡ end = omega (arith, p.ends, four) in e) ∙ p.front;
    }

pub lead_none : {lead : Option (ℕ × ℕ)} (j k : ℕ) (s : List ℕ) → lead ≡ None → Said (lead_facts lead j) k s k s
lead_none j k s e = subst (λ (l : Option (ℕ × ℕ)). Said (lead_facts l j) k s k s) (sym e) (nothing_said k s)

pub lead_fact : {lead : Option (ℕ × ℕ)} (a l j : ℕ) {k m : ℕ} {s t : List ℕ} → lead ≡ Some (a, l) →
    PutFact (3 ∷ low a ∷ low l ∷ low j ∷ []) k s m t → Said (lead_facts lead j) k s m t
lead_fact a l j {k = k} {m = m} {s = s} {t = t} e p =
    subst (λ (x : Option (ℕ × ℕ)). Said (lead_facts x j) k s m t) (sym e) (link_said a l j p)
