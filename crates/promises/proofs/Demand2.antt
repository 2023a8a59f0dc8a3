-- Demand 2, sentence by sentence: what the contracts of taking and asking say of each reply, by its number, place and third number, both
-- ways. One way by the cases of a contract, the other because it allows one reply.
-- Assumes nothing.
use mathlib.Core.Path.{◌≡◌, refl, sym, ap, subst}
use mathlib.Core.Logic.{◌↔◌}
use mathlib.Core.List.{List, ◌++◌}
use Prim.Native.Nat.{ℕ, ◌+◌, ◌*◌}
use native.Mathlib.Omega.{arith}
use Rattle.std.specs.Prelude.{Ok}
use Rattle.replies.specs.declared.Cause.TheVariants.{Clash}
use Rattle.replies.specs.Replies.{number, place, Reply, refusal}
use Rattle.meaning.specs.declared.Verdict.{Verdict}
use Rattle.meaning.specs.declared.Verdict.TheVariants as verdict
use Rattle.meaning.specs.Rig.{NoPicture, FirstClash}
use Rattle.meaning.specs.Rule.{Applies, RuledOut, verdict_number}
use Rattle.packets.specs.Packet.{fact_at}
use Rattle.packets.specs.Facts.{rig_facts, rule_of}
use Rattle.reach.specs.Reached.{ReachReply}
use Rattle.joints.specs.Layout.{taken}
use Rattle.blocks.specs.Layout.{rig_of}
use Rattle.taking.specs.Take.{Take, take_refusal}
use Rattle.taking.specs.Take.Take.{clashes}
use Rattle.asking.specs.Ask.{Ask, ask_refusal}
use Rattle.asking.specs.Ask.Ask.{judged}
use Rattle.taking.proofs.Taking.{packet_well, fact_place, taken_good}
use Rattle.taking.proofs.OneTake.{take_one}
use Rattle.asking.proofs.OneAsk.{ask_one}
use Rattle.promises.specs.HostReplies.{Reads}
use Rattle.promises.proofs.Readings.{reads_exactly}
use Rattle.promises.proofs.Later.{JudgedAt, answered, clashed, must_clash, clashed_no_picture}

-- a packet that no reply from 1 to 9 refuses
module _ {b p after : List ℕ} {r : Reply} (well : take_refusal b p ≡ Ok 0) (take : Take b p r after) where
  -- "A well-formed packet is refused for a clash exactly when no rig satisfies it together with the facts already taken."
  pub clash_exactly : (number r ≡ 11) ↔ NoPicture (rig_of b) (taken b ++ rig_facts p)
  clash_exactly = (
    λ e. clashed_no_picture (clashed take e),
    λ f. ap number (must_clash well f take).told,
  )

  at_fact : (i : ℕ) → fact_at p i ≡ 6 + 4 * i
  at_fact = fact_place (packet_well (taken_good b p well).1)

  -- 02, order 1: "The place of answer 11 becomes the offset of the first byte of the first fact such that the taken facts and the packet's facts up
  -- to and including it have no picture."
  pub clash_place : (i : ℕ) → Reads r 11 (6 + 4 * i) 0 ↔ FirstClash (rig_of b) (taken b) (rig_facts p) i
  clash_place i = (
    λ e.
        let d = clashed take e.number_is in
        let same : d.at ≡ i = omega (arith, e.place_is, ap place d.told, at_fact d.at) in
        subst (λ (k : ℕ). FirstClash (rig_of b) (taken b) (rig_facts p) k) same d.first,
    λ f. rw (sym (at_fact i)) ((reads_exactly r (refusal Clash (fact_at p i))).0 (take_one take (clashes well i f refl refl)).0),
  )

  -- and where it is refused for a clash there is such a fact
  pub clash_parts : NoPicture (rig_of b) (taken b ++ rig_facts p) → (i : ℕ) × Reads r 11 (6 + 4 * i) 0
  clash_parts f = let d = must_clash well f take in (d.at, (clash_place d.at).1 d.first)

-- a rule that no reply from 1 to 10 refuses
module _ {b p : List ℕ} {r : Reply} (well : ask_refusal b p ≡ Ok 0) (reached : ReachReply (rule_of p) (Ok 0)) (ask : Ask b p r) where
  pub verdict_exactly : (x : Verdict) → Reads r 0 0 (verdict_number x) ↔ JudgedAt b p x
  verdict_exactly x = (
    λ e. (answered x (subst (λ (y : Reply). Ask b p y) ((reads_exactly r (Ok (verdict_number x))).1 e) ask)).judged,
    λ j. (reads_exactly r (Ok (verdict_number x))).0 (ask_one ask (judged well reached x j refl)),
  )

  -- "A well-formed rule applies exactly when every rig satisfying the taken facts satisfies the rule"
  pub applies_exactly : Reads r 0 0 1 ↔ Applies (rig_of b) (taken b) (rule_of p)
  applies_exactly = verdict_exactly verdict.Applies

  -- "is ruled out exactly when none does"
  pub ruled_out_exactly : Reads r 0 0 2 ↔ RuledOut (rig_of b) (taken b) (rule_of p)
  ruled_out_exactly = verdict_exactly verdict.RuledOut

  -- "and waits otherwise"
  pub waits_exactly :
      Reads r 0 0 3
      ↔ ((Applies (rig_of b) (taken b) (rule_of p) → ⊥) × (RuledOut (rig_of b) (taken b) (rule_of p) → ⊥))
  waits_exactly = verdict_exactly verdict.Waits
