-- What a packet says: its facts, and for a rule its ties.
-- Assumes nothing.
use Rattle.std.specs.Prelude.{cond, List, ℕ, ◌+◌, eqb}
use Rattle.runs.specs.Runs.{each}
use Rattle.meaning.specs.declared.RigJoint.{RigJoint}
use Rattle.meaning.specs.declared.Tie.{Tie}
use Rattle.meaning.specs.Picture.{Fact}
use Rattle.meaning.specs.Picture.Fact.{has_kind, same, leads}
use Rattle.meaning.specs.Rule.{Rule, rule_joint}
use Rattle.meaning.specs.Form.{rig_joint}
use Rattle.packets.specs.Packet.{byte, ties, joints, tie_at, fact_at, fact_count}

-- the fact at a byte: 1, a, kind, 0 or 2, a, b, 0 or 3, a, link, c, where `joint` makes a joint of its number. It is asked only where no reply from
-- 5 to 9 fits, and so of no other tag
unfoldable pub fact_of : {J : Type 0} → (ℕ → J) → List ℕ → ℕ → Fact J
fact_of joint p at =
    cond (eqb (byte p at) 1) (has_kind (joint (byte p (at + 1))) (byte p (at + 2)))
    (cond (eqb (byte p at) 2) (same (joint (byte p (at + 1))) (joint (byte p (at + 2))))
    (leads (joint (byte p (at + 1))) (byte p (at + 2)) (joint (byte p (at + 3)))))

abbrev pub packet_facts : {J : Type 0} → (ℕ → J) → List ℕ → List (Fact J)
packet_facts joint p = each (λ i. fact_of joint p (fact_at p i)) 0 (fact_count p)

-- the facts of a packet for taking
abbrev pub rig_facts : List ℕ → List (Fact RigJoint)
rig_facts p = packet_facts rig_joint p

-- a tie: rule joint, rig joint
abbrev pub tie_of : List ℕ → ℕ → Tie
tie_of p at = record { rule = rule_joint (byte p at); rig = rig_joint (byte p (at + 1)) }

-- the rule of a packet for asking
abbrev pub rule_of : List ℕ → Rule
rule_of p = record { joints = joints p; ties = each (λ i. tie_of p (tie_at i)) 0 (ties p); facts = packet_facts rule_joint p }
