-- Asking in the words of forms: a rule's joints are nodes behind the rig's v joints, and its ties and facts are taken there.
-- These stand between the contract of asking and the solver's code; no exported contract rests on them.
-- Assumes nothing.
use Rattle.std.specs.Prelude.{◌≡◌, List, [], ◌∷◌, ◌++◌, map, ℕ, ◌+◌, ◌<◌, ◌≤◌}
use Rattle.meaning.specs.declared.RuleJoint.{RuleJoint}
use Rattle.meaning.specs.declared.Tie.{Tie}
use Rattle.meaning.specs.Picture.{Fact, rename}
use Rattle.meaning.specs.Picture.Fact.{same}
use Rattle.meaning.specs.Rule.{Rule}
use Rattle.meaning.specs.Form.{Form, unknown}
use Rattle.meaning.specs.Solving.{AllInRange}

-- the ties name rule joints below k and rig joints below v
abbrev pub TiesInRange : ℕ → ℕ → List Tie → Type 0
TiesInRange v k [] = Unit {0}
TiesInRange v k (t ∷ ts) = ((t.rule.0 < k) × (t.rig.0 < v)) × TiesInRange v k ts

abbrev pub rule_number : RuleJoint → ℕ
rule_number u = u.0

-- the numbers of a rule are in range: rule joints below its count, rig joints below v, kinds below n, links below 16
pub record RuleInRange (n v : ℕ) (r : Rule) : Type 0 where
  pub ties : TiesInRange v r.joints r.ties
  pub facts : AllInRange n r.joints (map (rename rule_number) r.facts)

-- the node of a rule joint
abbrev pub rule_node : ℕ → RuleJoint → ℕ
rule_node v u = v + u.0

abbrev pub tie_fact : ℕ → Tie → Fact ℕ
tie_fact v t = same (rule_node v t.rule) t.rig.0

-- what is taken when a rule is asked: its ties, then its facts
abbrev pub rule_node_facts : ℕ → Rule → List (Fact ℕ)
rule_node_facts v r = map (tie_fact v) r.ties ++ map (rename (rule_node v)) r.facts

-- E is S with k free nodes behind its v joints: each alone, of kind 1, with no known link
pub record Extends (v k : ℕ) (S E : Form) : Type 0 where
  pub class_old : (j : ℕ) → j < v → E.class j ≡ S.class j
  pub kind_old : (j : ℕ) → j < v → E.kind j ≡ S.kind j
  pub link_old : (j l : ℕ) → j < v → l < 16 → E.link j l ≡ S.link j l
  pub class_new : (j : ℕ) → v ≤ j → j < v + k → E.class j ≡ j
  pub kind_new : (j : ℕ) → v ≤ j → j < v + k → E.kind j ≡ 1
  pub link_new : (j l : ℕ) → v ≤ j → j < v + k → l < 16 → E.link j l ≡ unknown
  pub class_rest : (j : ℕ) → v + k ≤ j → E.class j ≡ 0
  pub kind_rest : (j : ℕ) → v + k ≤ j → E.kind j ≡ 0
  pub link_rest : (j l : ℕ) → v + k ≤ j → l < 16 → E.link j l ≡ 0

-- the rig's part of T is S, and each of the k nodes is one with a rig joint
pub record Settled (v k : ℕ) (S T : Form) : Type 0 where
  pub class : (j : ℕ) → j < v → T.class j ≡ S.class j
  pub kind : (j : ℕ) → j < v → T.kind j ≡ S.kind j
  pub link : (j l : ℕ) → j < v → l < 16 → T.link j l ≡ S.link j l
  pub inside : (i : ℕ) → i < k → T.class (v + i) < v
