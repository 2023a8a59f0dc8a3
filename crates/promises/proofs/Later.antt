-- From a block to a later one: a verdict but "waits" and a clash stay, and the clash comes at no later fact, since every picture and placing that
-- satisfy what is taken later satisfy what was taken before.
-- Assumes nothing.
use mathlib.Core.Path.{◌≡◌, refl, sym, ◌∙◌, ap, subst}
use mathlib.Core.Logic.{◌≢◌}
use mathlib.Core.Bool.{false, cond, true≢false}
use mathlib.Core.List.{List, ◌++◌}
use Prim.Native.Nat.{ℕ, ◌≤◌}
use native.Mathlib.Omega.{arith}
use lib.Dec.{eqb}
use Rattle.std.specs.Prelude.{Ok}
use Rattle.replies.specs.declared.Cause.TheVariants.{Clash}
use Rattle.replies.specs.Replies.{number, place, third, refuses, Reply, refusal}
use Rattle.replies.proofs.Laws.{not_both}
use Rattle.meaning.specs.declared.Verdict.{Verdict}
use Rattle.meaning.specs.declared.Verdict.TheVariants as verdict
use Rattle.meaning.specs.Rig.{Rig, NoPicture, FirstClash}
use Rattle.meaning.specs.Rule.{Applies, RuledOut, Judged, verdict_number}
use Rattle.meaning.proofs.Later.{Follows, meaning_follows, follows_append, no_picture_later, applies_later, ruled_out_later}
use Rattle.meaning.proofs.Clash.{clash_not_later, clash_no_picture}
use Rattle.packets.specs.Packet.{fact_at}
use Rattle.packets.specs.Facts.{rig_facts, rule_of}
use Rattle.screening.specs.Screening.{packet_reply, facts_wanted, rule_wanted}
use Rattle.reach.specs.Reached.{ReachReply}
use Rattle.joints.specs.Layout.{taken}
use Rattle.blocks.specs.Layout.{rig_of}
use Rattle.blocks.specs.WellFormed.{block_reply}
use Rattle.blocks.proofs.Shape.{GoodBlock, block_done}
use Rattle.blocks.proofs.Bytes.{at_rig_lem}
use Rattle.taking.specs.Take.{After, Take, take_refusal}
use Rattle.taking.specs.Take.Take.{refused as take_refused, clashes, done}
use Rattle.taking.proofs.Taking.{taken_good, packet_decides as take_decides}
use Rattle.taking.proofs.OneTake.{after_good, after_no_clash}
use Rattle.asking.specs.Ask.{Ask, ask_refusal}
use Rattle.asking.specs.Ask.Ask.{refused as ask_refused, unreached, judged}
use Rattle.asking.proofs.Asking.{asked, packet_decides as ask_decides}
use Rattle.asking.proofs.OneAsk.{ask_one}
use Rattle.promises.specs.Sessions.{Sent, Calls, facts_taken}
use Rattle.promises.proofs.Refusals.{refusal_no_clash}
use Rattle.promises.proofs.Sessions.{calls_after}

-- from a good block to a later one
module _ {b c : List ℕ} {sent : List Sent} (cs : Calls b sent c) (g : GoodBlock b) where
  later : After b (facts_taken sent) c
  later = calls_after g cs

  follows : Follows (rig_of b) (taken c) (taken b)
  follows = meaning_follows (rig_of b) (taken c) (taken b) (facts_taken sent) later.means

  -- what is said of the rig, at the later block
  at_later : (X : Rig → Type 0) → X (rig_of b) → X (rig_of c)
  at_later X = at_rig_lem X (sym later.stands.rig)

  -- the reply to the later block does not refuse
  later_passes : refuses (block_reply c) ≡ false
  later_passes = ap refuses (block_done (after_good later))

  -- a packet that no reply before the clash or the verdict refuses is refused by none later
  asks_on : (p : List ℕ) → ask_refusal b p ≡ Ok 0 → ask_refusal c p ≡ Ok 0
  asks_on p d =
      ask_decides c p later_passes ∙ at_later (λ R. packet_reply rule_wanted R.kinds R.joints p ≡ Ok 0) (asked b p d).rule

  takes_on : (p : List ℕ) → take_refusal b p ≡ Ok 0 → take_refusal c p ≡ Ok 0
  takes_on p d =
      take_decides c p later_passes
      ∙ at_later (λ R. packet_reply (facts_wanted R.joints) R.kinds R.joints p ≡ Ok 0) (taken_good b p d).1

-- the verdict on a rule given what a block has taken
abbrev pub JudgedAt : List ℕ → List ℕ → Verdict → Type 0
JudgedAt b p = Judged (rig_of b) (taken b) (rule_of p)

-- what an asking that is done tells
pub record Answered (b p : List ℕ) (x : Verdict) : Type 0 where
  pub goes_on : ask_refusal b p ≡ Ok 0
  pub reached : ReachReply (rule_of p) (Ok 0)
  pub judged : JudgedAt b p x

-- a verdict is known by its number
verdict_of : ℕ → Verdict
verdict_of k = cond (eqb k 1) verdict.Applies (cond (eqb k 2) verdict.RuledOut verdict.Waits)

verdict_of_lem : (x : Verdict) → verdict_of (verdict_number x) ≡ x
unfolding verdict_of
verdict_of_lem verdict.Applies = refl
verdict_of_lem verdict.RuledOut = refl
verdict_of_lem verdict.Waits = refl

pub answered : {b p : List ℕ} (x : Verdict) → Ask b p (Ok (verdict_number x)) → Answered b p x
answered x (ask_refused e q) = absurd (true≢false (sym e ∙ ap refuses (sym q)))
answered x (unreached d r e) = absurd (true≢false (sym e))
answered {b} {p} x (judged d r y j q) =
    let same = sym (verdict_of_lem y) ∙ ap verdict_of (ap third (sym q)) ∙ verdict_of_lem x in
    record { goes_on = d; reached = r; judged = subst (λ (z : Verdict). JudgedAt b p z) same j }

-- a verdict but "waits" stays as more is taken
judged_later :
    {b c : List ℕ} {sent : List Sent} (p : List ℕ) (x : Verdict) → x ≢ verdict.Waits → Calls b sent c → GoodBlock b → JudgedAt b p x → JudgedAt c p x
judged_later {b} {c} p verdict.Applies d cs g j =
    at_later cs g (λ R. Applies R (taken c) (rule_of p)) (applies_later (rig_of b) (taken c) (taken b) (follows cs g) (rule_of p) j)
judged_later {b} {c} p verdict.RuledOut d cs g j =
    at_later cs g (λ R. RuledOut R (taken c) (rule_of p)) (ruled_out_later (rig_of b) (taken c) (taken b) (follows cs g) (rule_of p) j)
judged_later p verdict.Waits d cs g j = absurd (d refl)

pub verdict_stays :
    {b c p : List ℕ} {sent : List Sent} {r : Reply} (x : Verdict) → x ≢ verdict.Waits → Ask b p (Ok (verdict_number x)) → Calls b sent c →
    Ask c p r → r ≡ Ok (verdict_number x)
verdict_stays {b} {p = p} x d before cs after =
    let a = answered x before in
    let g = (asked b p a.goes_on).good in
    ask_one after (judged (asks_on cs g p a.goes_on) a.reached x (judged_later p x d cs g a.judged) refl)

-- a taking that clashes, and at which fact
pub record Clashed (b p : List ℕ) (r : Reply) (after : List ℕ) : Type 0 where
  pub goes_on : take_refusal b p ≡ Ok 0
  pub at : ℕ
  pub first : FirstClash (rig_of b) (taken b) (rig_facts p) at
  pub told : r ≡ refusal Clash (fact_at p at)
  pub kept : after ≡ b

module _ {b p : List ℕ} {r : Reply} {after : List ℕ} where
  -- it is told by its number
  pub clashed : Take b p r after → number r ≡ 11 → Clashed b p r after
  clashed (take_refused e q _) eleven = absurd (refusal_no_clash b p (ap number (sym q) ∙ eleven))
  clashed (clashes d i f q same) _ = record { goes_on = d; at = i; first = f; told = q; kept = same }
  clashed (done d a q) eleven = absurd (omega (arith, ap number q, eleven))

  -- and a packet that no reply from 1 to 9 refuses clashes where it has no picture with the taken facts
  pub must_clash : take_refusal b p ≡ Ok 0 → NoPicture (rig_of b) (taken b ++ rig_facts p) → Take b p r after → Clashed b p r after
  must_clash well f (take_refused e q _) = absurd (not_both e well)
  must_clash well f (clashes d i first q same) = record { goes_on = d; at = i; first = first; told = q; kept = same }
  must_clash well f (done d a q) = absurd (after_no_clash a f)

  pub clashed_no_picture : Clashed b p r after → NoPicture (rig_of b) (taken b ++ rig_facts p)
  clashed_no_picture d = clash_no_picture (rig_of b) (taken b) (rig_facts p) d.first

-- a later taking of the same packet
module _ {b c p : List ℕ} {sent : List Sent} {first : Reply} {after : List ℕ} (d : Clashed b p first after) (cs : Calls b sent c) where
  good : GoodBlock b
  good = (taken_good b p d.goes_on).0

  pub still_clashes : {r : Reply} {again : List ℕ} → Take c p r again → Clashed c p r again
  still_clashes t =
      let more = follows_append (rig_of b) (taken c) (taken b) (rig_facts p) (follows cs good) in
      let clash = no_picture_later (rig_of b) (taken c ++ rig_facts p) (taken b ++ rig_facts p) more (clashed_no_picture d) in
      must_clash (takes_on cs good p d.goes_on) (at_later cs good (λ R. NoPicture R (taken c ++ rig_facts p)) clash) t

  -- at no later place
  pub place_not_later : {r : Reply} {again : List ℕ} → Clashed c p r again → place r ≤ place first
  place_not_later e =
      let then = at_rig_lem (λ R. FirstClash R (taken c) (rig_facts p) e.at) (later cs good).stands.rig e.first in
      let fewer = clash_not_later (rig_of b) (taken c) (taken b) (rig_facts p) (follows cs good) d.first then in
      omega (arith, fewer, ap place e.told, ap place d.told)
