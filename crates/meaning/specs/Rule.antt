-- Rules: what it is for a rule to hold of a picture and a placing, when its joints are reached, and the verdicts.
-- Assumes nothing.
use Rattle.std.specs.Prelude.{◌≡◌, ℕ}
use mathlib.Core.List.{List, [], ◌∷◌, Memᴰ}
use Rattle.meaning.specs.declared.RigJoint.{RigJoint}
use Rattle.meaning.specs.declared.RuleJoint.{RuleJoint}
use Rattle.meaning.specs.declared.Tie.{Tie}
use Rattle.meaning.specs.declared.Verdict.{Verdict}
use Rattle.meaning.specs.declared.Verdict.TheVariants as verdict
use Rattle.meaning.specs.Picture.{Picture, Placing, Fact, All}
use Rattle.meaning.specs.Picture.Fact.{leads}
use Rattle.meaning.specs.Rig.{Rig, meet_of, Counts}

abbrev pub rule_joint : ℕ → RuleJoint
rule_joint j = record { 0 = j }

pub record Rule : Type 0 where
  pub joints : ℕ
  pub ties : List Tie
  pub facts : List (Fact RuleJoint)

-- the placings of rig and rule agree with the ties
abbrev pub Agree : (RigJoint → ℕ) → (RuleJoint → ℕ) → List Tie → Type 0
Agree σ τ [] = Unit {0}
Agree σ τ (t ∷ ts) = (τ t.rule ≡ σ t.rig) × Agree σ τ ts

-- a placing of the rule's joints that agrees with its ties and satisfies its facts
pub record Found {n : ℕ} (meet : ℕ → ℕ → ℕ) (P : Picture n) (σ : RigJoint → ℕ) (r : Rule) : Type 0 where
  pub τ : RuleJoint → ℕ
  pub placed : Placing P τ
  pub agree : Agree σ τ r.ties
  pub holds : All meet P τ r.facts

-- a tied joint is reached, and so is c when a fact "a.l is c" has a reached
pub data Reached (r : Rule) : RuleJoint → Type 0 where
  by_tie : {t : Tie} → Memᴰ t r.ties → Reached r t.rule
  by_link : {a c : RuleJoint} {l : ℕ} → Memᴰ (leads a l c) r.facts → Reached r a → Reached r c

-- the verdicts on a rule, given the taken facts
module _ (R : Rig) (taken : List (Fact RigJoint)) (r : Rule) where
  abbrev pub Applies : Type 0
  Applies =
      (P : Picture R.kinds) (σ : RigJoint → ℕ) → Counts R.profile P → Placing P σ → All (meet_of R) P σ taken → Found (meet_of R) P σ r

  abbrev pub RuledOut : Type 0
  RuledOut =
      (P : Picture R.kinds) (σ : RigJoint → ℕ) → Counts R.profile P → Placing P σ → All (meet_of R) P σ taken → Found (meet_of R) P σ r → ⊥

  -- what each verdict says; a rule that neither applies nor is ruled out waits. None both applies and is ruled out where the taken facts
  -- have a picture, as those of a well-formed block do.
  abbrev pub Judged : Verdict → Type 0
  Judged verdict.Applies = Applies
  Judged verdict.RuledOut = RuledOut
  Judged verdict.Waits = (Applies → ⊥) × (RuledOut → ⊥)

abbrev pub verdict_number : Verdict → ℕ
verdict_number verdict.Applies = 1
verdict_number verdict.RuledOut = 2
verdict_number verdict.Waits = 3
