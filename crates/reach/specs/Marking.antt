-- Marks on a rule's joints, by which the reached ones are found, and which joint leads to which. A set of joints is a number, whose bit j is 1
-- where j is in it. No call cites these: they stand between reply 10 and its code.
-- Assumes nothing.
use Rattle.std.specs.Prelude.{◌≡◌, ◌≢◌, List, ℕ, ◌/◌, ◌%◌, ◌^◌, ◌≤◌, ◌<◌, length, get_or, Ok}
use Rattle.meaning.specs.declared.RuleJoint.{RuleJoint}
use Rattle.meaning.specs.Picture.{Fact}
use Rattle.meaning.specs.Picture.Fact.{leads}
use Rattle.meaning.specs.Rule.{Reached, rule_joint}
use Rattle.packets.specs.Packet.{byte, ties, tie_at, fact_at, fact_count}
use Rattle.packets.specs.Facts.{fact_of, rule_of}
use Rattle.screening.specs.Screening.{rule_wanted, packet_reply}

-- a packet for asking that no reply from 5 to 9 refuses, for some number of kinds and of rig joints
pub record RulePacket (p : List ℕ) : Type 0 where
  pub n : ℕ
  pub v : ℕ
  pub well : packet_reply rule_wanted n v p ≡ Ok 0

-- the i-th fact of a rule
abbrev pub nth_fact : List ℕ → ℕ → Fact RuleJoint
nth_fact p i = fact_of rule_joint p (fact_at p i)

abbrev pub bit : ℕ → ℕ → ℕ
bit m j = m / 2 ^ j % 2

abbrev pub Marked : ℕ → ℕ → Type 0
Marked m j = bit m j ≡ 1

-- r has the mark of j besides those of m
pub record WithMark (m j r : ℕ) : Type 0 where
  pub here : Marked r j
  pub others : (k : ℕ) → k ≢ j → bit r k ≡ bit m k
  pub grows : m ≤ r
  pub bits : r < 2 ^ 32

-- row a of the table has the mark of c: a leads to c
abbrev pub Lead : List ℕ → ℕ → ℕ → Type 0
Lead to a c = Marked (get_or to a 0) c

-- in t a leads to c, besides what leads in s
pub record WithLead (a c : ℕ) (s t : List ℕ) : Type 0 where
  pub size : length t ≡ length s
  pub here : Lead t a c
  pub keeps : (i j : ℕ) → Lead s i j → Lead t i j
  pub others : (i j : ℕ) → (i ≡ a → j ≡ c → ⊥) → Lead t i j → Lead s i j

-- where the fact is "a.l is c", a leads to c
abbrev pub Noted : Fact RuleJoint → List ℕ → Type 0
Noted f to = (a c : RuleJoint) (l : ℕ) → f ≡ leads a l c → Lead to a.0 c.0

-- the first count facts are noted, and where a leads to c, c is reached if a is
pub record Leads (p : List ℕ) (count : ℕ) (to : List ℕ) : Type 0 where
  pub size : length to ≡ 32
  pub noted : (i : ℕ) → i < count → Noted (nth_fact p i) to
  pub sound : (a c : ℕ) → Lead to a c → Reached (rule_of p) (rule_joint a) → Reached (rule_of p) (rule_joint c)

-- only reached joints are marked
pub record Sound (p : List ℕ) (m : ℕ) : Type 0 where
  pub reached : (j : ℕ) → Marked m j → Reached (rule_of p) (rule_joint j)

-- every tied joint is marked
abbrev pub TiesMarked : List ℕ → ℕ → Type 0
TiesMarked p m = (i : ℕ) → i < ties p → Marked m (byte p (tie_at i))

-- where a of a fact "a.l is c" is marked, c is
abbrev pub Follows : Fact RuleJoint → ℕ → Type 0
Follows f m = (a c : RuleJoint) (l : ℕ) → f ≡ leads a l c → Marked m a.0 → Marked m c.0

-- only reached joints are marked, and neither a tie nor a fact marks another
pub record Closed (p : List ℕ) (m : ℕ) : Type 0 where
  pub sound : Sound p m
  pub ties : TiesMarked p m
  pub follows : (i : ℕ) → i < fact_count p → Follows (nth_fact p i) m
