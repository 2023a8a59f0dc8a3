-- A packet written from facts has four bytes for each, and says exactly them: each fact is read back from the four bytes that were written
-- for it.
-- Assumes nothing.
use mathlib.Core.Path.{◌≡◌, refl, sym, ap, ◌∙◌}
use mathlib.Core.List.{List, [], ◌∷◌, ◌++◌, map, append_assoc}
use Prim.Native.Nat.{ℕ, suc, ◌+◌, ◌*◌, ◌/◌, ◌%◌}
use native.Mathlib.Omega.{arith}
use lib.ListN.{length, get_or, length-append, length-map}
use lib.Seq.{get_or-append-add}
use Rattle.runs.specs.Runs.{each}
use Rattle.meaning.specs.declared.RigJoint.{RigJoint}
use Rattle.meaning.specs.Picture.{Fact, rename}
use Rattle.meaning.specs.Picture.Fact.{has_kind, same, leads}
use Rattle.meaning.specs.Form.{rig_joint}
use Rattle.packets.specs.Packet.{byte, L, fact_at, fact_count}
use Rattle.packets.specs.Facts.{fact_of, rig_facts}
use Rattle.packets.specs.FactsPacket.{fact_bytes, all_bytes, facts_packet}

-- four bytes a fact, and six before them
pub fact_four : (f : Fact RigJoint) → length (fact_bytes f) ≡ 4
fact_four (has_kind a s) = refl
fact_four (same a c) = refl
fact_four (leads a l c) = refl

pub bytes_four : (fs : List (Fact RigJoint)) → length (all_bytes fs) ≡ 4 * length fs
unfolding all_bytes
bytes_four [] = refl
bytes_four (f ∷ fs) = length-append (fact_bytes f) (all_bytes fs) ∙ omega (arith, fact_four f, bytes_four fs)

pub packet_size : (v : ℕ) (fs : List (Fact RigJoint)) → length (facts_packet v fs) ≡ 6 + 4 * length fs
packet_size v fs = omega (arith, bytes_four fs)

-- the four bytes at a place
pub record Four (p : List ℕ) (at w x y z : ℕ) : Type 0 where
  pub first : byte p at ≡ w
  pub second : byte p (at + 1) ≡ x
  pub third : byte p (at + 2) ≡ y
  pub fourth : byte p (at + 3) ≡ z

-- those of a fact
abbrev pub FactAt : List ℕ → ℕ → Fact ℕ → Type 0
FactAt p at (has_kind a s) = Four p at 1 a s 0
FactAt p at (same a b) = Four p at 2 a b 0
FactAt p at (leads a l c) = Four p at 3 a l c

fact_read : {J : Type 0} (joint : ℕ → J) (p : List ℕ) (at : ℕ) (f : Fact ℕ) → FactAt p at f → fact_of joint p at ≡ rename joint f
unfolding fact_of
fact_read joint p at (has_kind a s) b = rw (b.first, b.second, b.third)
fact_read joint p at (same a c) b = rw (b.first, b.second, b.third)
fact_read joint p at (leads a l c) b = rw (b.first, b.second, b.third, b.fourth)

-- the bytes of a fact stand behind what stands before them
four_stand :
    (q rest : List ℕ) (w x y z at : ℕ) → at ≡ length q → Four (q ++ (w ∷ x ∷ y ∷ z ∷ rest)) at w x y z
four_stand q rest w x y z at e =
    record {
      first = is 0 at (omega arith);
      second = is 1 (at + 1) (omega arith);
      third = is 2 (at + 2) (omega arith);
      fourth = is 3 (at + 3) (omega arith);
    }
  where
    is : (k place : ℕ) → place ≡ length q + k → get_or (q ++ (w ∷ x ∷ y ∷ z ∷ rest)) place 0 ≡ get_or (w ∷ x ∷ y ∷ z ∷ rest) k 0
    is k place h =
        ap (λ (i : ℕ). get_or (q ++ (w ∷ x ∷ y ∷ z ∷ rest)) i 0) h ∙ get_or-append-add q (w ∷ x ∷ y ∷ z ∷ rest) k 0

fact_stands : (q : List ℕ) (f : Fact ℕ) (rest : List ℕ) (at : ℕ) → at ≡ length q → FactAt (q ++ (fact_bytes (rename rig_joint f) ++ rest)) at f
fact_stands q (has_kind a s) rest at e = four_stand q rest 1 a s 0 at e
fact_stands q (same a c) rest at e = four_stand q rest 2 a c 0 at e
fact_stands q (leads a l c) rest at e = four_stand q rest 3 a l c at e

-- from the i-th fact on, the bytes of each stand at its place
abbrev pub AllStand : List ℕ → ℕ → List (Fact ℕ) → Type 0
AllStand p i [] = Unit {0}
AllStand p i (f ∷ fs) = FactAt p (fact_at p i) f × AllStand p (suc i) fs

all_stand :
    (p q : List ℕ) (i : ℕ) (fs : List (Fact ℕ)) → p ≡ q ++ all_bytes (map (rename rig_joint) fs) → fact_at p i ≡ length q →
    AllStand p i fs
unfolding all_bytes
all_stand p q i [] e h = tt
all_stand p q i (f ∷ fs) e h =
    let here = fact_bytes (rename rig_joint f) in
    let rest = all_bytes (map (rename rig_joint) fs) in
    let stands : FactAt p (fact_at p i) f = rw (← e) at (fact_stands q f rest (fact_at p i) h) in
    let next : fact_at p (suc i) ≡ length (q ++ here) = omega (arith, length-append q here, fact_four (rename rig_joint f)) in
    (stands, all_stand p (q ++ here) (suc i) fs (e ∙ sym (append_assoc q here rest)) next)

all_read :
    (p : List ℕ) (i : ℕ) (fs : List (Fact ℕ)) → AllStand p i fs →
    each (λ k. fact_of rig_joint p (fact_at p k)) i (length fs) ≡ map (rename rig_joint) fs
unfolding each
all_read p i [] s = refl
all_read p i (f ∷ fs) s = cc (fact_read rig_joint p (fact_at p i) f s.0, all_read p (suc i) fs s.1)

-- a packet of v joints that is written from facts
module _ (v : ℕ) (fs : List (Fact ℕ)) where
  abbrev pub written : List ℕ
  written = facts_packet v (map (rename rig_joint) fs)

  -- L is split into two bytes and put together again
  pub L_is : L written ≡ 4 + 4 * length fs
  L_is = omega (arith, length-map fs (rename rig_joint))

  pub size_is : length written ≡ 6 + 4 * length fs
  size_is = omega (arith, packet_size v (map (rename rig_joint) fs), length-map fs (rename rig_joint))

  pub count_is : fact_count written ≡ length fs
  count_is = omega (arith, L_is)

  pub written_stand : AllStand written 0 fs
  written_stand =
      let l = 4 + 4 * length (map (rename rig_joint) fs) in
      all_stand written (l / 256 ∷ l % 256 ∷ 1 ∷ 1 ∷ 0 ∷ v ∷ []) 0 fs refl refl

  pub written_says : rig_facts written ≡ map (rename rig_joint) fs
  written_says = ap (each (λ k. fact_of rig_joint written (fact_at written k)) 0) count_is ∙ all_read written 0 fs written_stand
