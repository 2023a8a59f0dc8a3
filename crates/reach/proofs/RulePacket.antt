-- A rule's parts, where no reply from 5 to 9 refuses it: its tied joints and the ends of its links are below 32.
-- Assumes nothing.
use mathlib.Core.Path.{◌≡◌, sym, ap, ◌∙◌}
use mathlib.Core.List.{List}
use Prim.Native.Nat.{ℕ, ◌<◌}
use native.Mathlib.Omega.{arith}
use Rattle.replies.specs.Replies.{refuses}
use Rattle.meaning.specs.declared.RuleJoint.{RuleJoint}
use Rattle.meaning.specs.Picture.{Fact, rename}
use Rattle.meaning.specs.Picture.Fact.{has_kind, same, leads}
use Rattle.meaning.specs.Rule.{rule_joint}
use Rattle.meaning.specs.Solving.{InRange}
use Rattle.packets.specs.Packet.{byte, ties, joints, tie_at, fact_at, fact_count}
use Rattle.packets.specs.Facts.{fact_of}
use Rattle.packets.proofs.Facts.{fact_named}
use Rattle.screening.specs.Screening.{rule_wanted}
use Rattle.screening.proofs.WellFormed.{WellFormed, well_formed_lem}
use Rattle.reach.specs.Marking.{RulePacket, nth_fact}

-- the numbers of a link that is in range
link_range :
    (n v : ℕ) (f : Fact ℕ) {a c : RuleJoint} {l : ℕ} → InRange n v f → rename rule_joint f ≡ leads a l c → (a.0 < v) × (c.0 < v)
link_range n v (has_kind x s) r e = absurd (let z : ◌≡◌ {A = ℕ} 0 1 = cc in omega arith)
link_range n v (same x y) r e = absurd (let z : ◌≡◌ {A = ℕ} 0 1 = cc in omega arith)
link_range n v (leads x k y) {a} {c} r e = let q : x ≡ a.0 = cc in let s : y ≡ c.0 = cc in (omega arith, omega arith)

module _ {p : List ℕ} (r : RulePacket p) where
  pub rule_well : WellFormed rule_wanted r.n r.v p
  rule_well = well_formed_lem rule_wanted r.n r.v p (ap refuses r.well)

  pub rule_tie : (i : ℕ) → i < ties p → byte p (tie_at i) < 32
  rule_tie i h = omega (arith, rule_well.tie_rule i h, rule_well.joints_to)

  pub rule_link :
      (i : ℕ) → i < fact_count p → {a c : RuleJoint} {l : ℕ} → nth_fact p i ≡ leads a l c → (a.0 < 32) × (c.0 < 32)
  rule_link i h e =
      let named = sym (fact_named rule_joint p (fact_at p i)) ∙ e in
      let q = link_range r.n (joints p) (fact_of (λ j. j) p (fact_at p i)) (rule_well.fact i h) named in
      let t = rule_well.joints_to in
      (omega arith, omega arith)
