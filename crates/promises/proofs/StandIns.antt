-- The stand-ins of 'How the contracts are judged' excluded. That a constant answer "waits" is excluded is what Demand2.antt says of each
-- verdict, both ways.
-- Assumes nothing.
use mathlib.Core.Path.{◌≡◌, refl, sym, ◌∙◌, ap, subst}
use mathlib.Core.Logic.{◌↔◌, ◌≢◌}
use mathlib.Core.Bool.{false, true≢false}
use mathlib.Core.List.{List, ◌++◌, Memᴰ}
use Prim.Native.Nat.{ℕ, ◌-◌}
use Rattle.std.specs.Prelude.{Ok}
use Rattle.replies.specs.Replies.{third, refuses, Reply}
use Rattle.meaning.specs.declared.RigJoint.{RigJoint}
use Rattle.meaning.specs.declared.Verdict.{Verdict}
use Rattle.meaning.specs.declared.Verdict.TheVariants as verdict
use Rattle.meaning.specs.Picture.{Picture, Placing, Fact, All}
use Rattle.meaning.specs.Rig.{Rig, meet_of, Counts, SameMeaning}
use Rattle.meaning.specs.Rule.{Rule, Judged, verdict_number}
use Rattle.meaning.proofs.Later.{Follows}
use Rattle.meaning.proofs.Clash.{clash_no_picture}
use Rattle.meaning.proofs.Facts.{all_right}
use Rattle.packets.specs.Facts.{rig_facts, rule_of}
use Rattle.reach.specs.Reached.{ReachReply}
use Rattle.joints.specs.Layout.{taken, class_count}
use Rattle.blocks.specs.Layout.{rig_of}
use Rattle.blocks.proofs.Bytes.{at_rig_lem}
use Rattle.taking.specs.Take.{After, Take, take_refusal}
use Rattle.taking.specs.Take.Take.{refused as take_refused, clashes, done}
use Rattle.asking.specs.Ask.{Ask, ask_refusal}
use Rattle.promises.specs.Sessions.{Sent, Session, opened_rig, facts_taken}
use Rattle.promises.specs.HostReplies.{Reads}
use Rattle.promises.proofs.Sessions.{packet_holds, session_rig, session_means}
use Rattle.promises.proofs.Demand2.{verdict_exactly}
use Rattle.promises.proofs.Demand3.{taken_since_opening}

-- "refusing everything": a packet that no reply from 1 to 9 refuses is taken where some picture and placing satisfy it with the taken facts
pub not_refused :
    {b p after : List ℕ} {r : Reply} → take_refusal b p ≡ Ok 0 →
    (P : Picture (rig_of b).kinds) (σ : RigJoint → ℕ) → Counts (rig_of b).profile P → Placing P σ → All (meet_of (rig_of b)) P σ (taken b ++ rig_facts p) → Take b p r after →
    refuses r ≡ false
not_refused well P σ counts placed holds (take_refused e q _) = absurd (true≢false (sym e ∙ ap refuses well))
not_refused {b} {p} well P σ counts placed holds (clashes d i f q _) =
    absurd (clash_no_picture (rig_of b) (taken b) (rig_facts p) f P σ counts placed holds)
not_refused well P σ counts placed holds (done d a q) = ap refuses q

-- what a taking that is done leaves
pub record TakenSo (b p : List ℕ) (r : Reply) (after : List ℕ) : Type 0 where
  pub after_taking : After b (rig_facts p) after
  pub told : r ≡ Ok (class_count b - class_count after)

pub took : {b p after : List ℕ} {r : Reply} → refuses r ≡ false → Take b p r after → TakenSo b p r after
took e (take_refused d q _) = absurd (true≢false (sym d ∙ ap refuses (sym q) ∙ e))
took e (clashes d i f q _) = absurd (true≢false (ap refuses (sym q) ∙ e))
took e (done d a q) = record { after_taking = a; told = q }

-- "storing nothing": facts that do not follow from those taken change the block
pub stores :
    {b p after : List ℕ} {r : Reply} → Take b p r after → refuses r ≡ false →
    (Follows (rig_of b) (taken b) (rig_facts p) → ⊥) → after ≢ b
stores {b} {p} t e new same =
    let means = subst (λ (x : List ℕ). SameMeaning (rig_of b) (taken x) (taken b ++ rig_facts p)) same
    (took e t).after_taking.means in
    new (λ P σ c placed a. all_right (meet_of (rig_of b)) P σ (taken b) (rig_facts p) ((means P σ c placed).0 a))

-- "an invented number of joins": it is fixed by the two blocks
pub joins_told : {b p after : List ℕ} {joins : ℕ} → Take b p (Ok joins) after → joins ≡ class_count b - class_count after
joins_told t = ap third (took refl t).told

-- "a session that takes only its first packet and afterwards just reports done": the facts of every packet that was reported done count at
-- the next asking
pub every_packet_counts :
    {n v : ℕ} {table b : List ℕ} {sent : List Sent} → Session n v table sent b → {s : Sent} → Memᴰ s sent → refuses s.reply ≡ false →
    Follows (rig_of b) (taken b) (rig_facts s.packet)
every_packet_counts {b = b} session in_sent e P σ c placed a =
    packet_holds (meet_of (rig_of b)) P σ in_sent e ((taken_since_opening session P σ c placed).0 a)

-- facts of one meaning give every rule one verdict
judged_same : (R : Rig) (fs gs : List (Fact RigJoint)) → SameMeaning R fs gs → (r : Rule) (x : Verdict) → Judged R fs r x → Judged R gs r x
judged_same R fs gs m r verdict.Applies j = λ P σ c placed a. j P σ c placed ((m P σ c placed).1 a)
judged_same R fs gs m r verdict.RuledOut j = λ P σ c placed a. j P σ c placed ((m P σ c placed).1 a)
judged_same R fs gs m r verdict.Waits j = (
  λ applies. j.0 (λ P σ c placed a. applies P σ c placed ((m P σ c placed).0 a)),
  λ out. j.1 (λ P σ c placed a. out P σ c placed ((m P σ c placed).0 a)),
)

-- and so "on the next asking": a rule that no reply refuses is judged by the facts of every packet reported done since opening, and by no others
pub asked_since_opening :
    {n v : ℕ} {table b p : List ℕ} {sent : List Sent} {r : Reply} → Session n v table sent b → ask_refusal b p ≡ Ok 0 →
    ReachReply (rule_of p) (Ok 0) → Ask b p r → (x : Verdict) →
    Reads r 0 0 (verdict_number x) ↔ Judged (opened_rig n v table) (facts_taken sent) (rule_of p) x
asked_since_opening {n} {v} {table} {b} {p} {sent} session well reached ask x = (
  λ e.
      judged_same R (taken b) (facts_taken sent) means (rule_of p) x
      (at_rig_lem (λ S. Judged S (taken b) (rule_of p) x) (session_rig session) ((verdict_exactly well reached ask x).0 e)),
  λ j.
      (verdict_exactly well reached ask x).1
      (at_rig_lem (λ S. Judged S (taken b) (rule_of p) x) (sym (session_rig session))
      (judged_same R (facts_taken sent) (taken b) (λ P σ c placed. ((means P σ c placed).1, (means P σ c placed).0)) (rule_of p) x j)),
)
  where
    R : Rig
    R = opened_rig n v table

    means : SameMeaning (opened_rig n v table) (taken b) (facts_taken sent)
    means = session_means session
