-- Demand 3, sentence by sentence, over calls of any number. Later blocks of a session have taken what earlier ones have, and more; a block
-- is fixed by what it means.
-- Assumes nothing.
use mathlib.Core.Path.{◌≡◌, refl, sym, ◌∙◌, ap, subst}
use mathlib.Core.Logic.{◌≢◌}
use mathlib.Core.Bool.{false, true≢false}
use mathlib.Core.List.{List, ◌++◌, Memᴰ}
use Prim.Native.Nat.{ℕ, ◌≤◌}
use native.Mathlib.Omega.{arith}
use Rattle.std.specs.Prelude.{Ok}
use Rattle.replies.specs.declared.Cause.TheVariants.{Clash}
use Rattle.replies.specs.Replies.{number, place, refuses, Reply, refusal}
use Rattle.meaning.specs.declared.RigJoint.{RigJoint}
use Rattle.meaning.specs.declared.Verdict.{Verdict}
use Rattle.meaning.specs.declared.Verdict.TheVariants as verdict
use Rattle.meaning.specs.Picture.{Picture, Placing, All}
use Rattle.meaning.specs.Rig.{meet_of, Counts, NoPicture, SameMeaning}
use Rattle.meaning.specs.Rule.{verdict_number}
use Rattle.meaning.proofs.Later.{members_follow}
use Rattle.meaning.proofs.Facts.{all_append}
use Rattle.meaning.proofs.Clash.{clash_no_picture}
use Rattle.packets.specs.Packet.{fact_at}
use Rattle.packets.specs.Facts.{rig_facts}
use Rattle.screening.specs.Screening.{packet_reply, facts_wanted}
use Rattle.joints.specs.Layout.{taken}
use Rattle.blocks.specs.Layout.{rig_of}
use Rattle.blocks.proofs.Bytes.{at_rig_lem, one_block}
use Rattle.opening.specs.Open.{open_block}
use Rattle.taking.specs.Take.{Take, take_refusal}
use Rattle.taking.specs.Take.Take.{refused as take_refused, clashes, done}
use Rattle.taking.proofs.OneTake.{take_one}
use Rattle.asking.specs.Ask.{Ask}
use Rattle.asking.proofs.OneAsk.{ask_one}
use Rattle.promises.specs.HostReplies.{Reads}
use Rattle.promises.specs.Sessions.{Sent, Calls, Session, opened_rig, facts_taken, SameFacts}
use Rattle.promises.proofs.Readings.{reads_exactly, number_clash}
use Rattle.promises.proofs.Later.{verdict_stays, clashed, still_clashes, place_not_later}
use Rattle.promises.proofs.Sessions.{session_good, session_rig, session_means, same_kinds}
use Rattle.promises.proofs.Sessions.{sent_goes_on, facts_hold, Moment, moment}

-- "within a session of demand 3 they mean the same as all facts taken since opening" (01, of the taken facts)
pub taken_since_opening :
    {n v : ℕ} {table : List ℕ} {sent : List Sent} {b : List ℕ} → Session n v table sent b →
    SameMeaning (rig_of b) (taken b) (facts_taken sent)
taken_since_opening {sent = sent} {b} s = at_rig_lem (λ R. SameMeaning R (taken b) (facts_taken sent)) (sym (session_rig s)) (session_means s)

-- "Within it, a rule that once applies or is ruled out in the sense of demand 2 gets that verdict at every later asking": whoever wrote the
-- block of the first asking, whatever calls came between
module _ {b c p : List ℕ} {sent : List Sent} {first r : Reply} where
  stays :
      (x : Verdict) → x ≢ verdict.Waits → Ask b p first → Reads first 0 0 (verdict_number x) → Calls b sent c → Ask c p r →
      Reads r 0 0 (verdict_number x)
  stays x d a e calls later =
      let told = (reads_exactly first (Ok (verdict_number x))).1 e in
      (reads_exactly r (Ok (verdict_number x))).0 (verdict_stays x d (subst (λ (y : Reply). Ask b p y) told a) calls later)

  pub applies_stays : Ask b p first → Reads first 0 0 1 → Calls b sent c → Ask c p r → Reads r 0 0 1
  applies_stays = stays verdict.Applies (λ e. omega (arith, ap verdict_number e))

  pub ruled_out_stays : Ask b p first → Reads first 0 0 2 → Calls b sent c → Ask c p r → Reads r 0 0 2
  ruled_out_stays = stays verdict.RuledOut (λ e. omega (arith, ap verdict_number e))

-- "and a packet refused for a clash is refused for a clash at every later sending", which changes nothing
module _ {b c p after again : List ℕ} {sent : List Sent} {first r : Reply} where
  pub clash_stays : Take b p first after → number first ≡ 11 → Calls b sent c → Take c p r again → Reads r 11 (place r) 0 × (again ≡ c)
  clash_stays take e calls later =
      let still = still_clashes (clashed take e) calls later in
      let told = (reads_exactly r (refusal Clash (fact_at p still.at))).0 still.told in
      (record { number_is = told.number_is; place_is = refl; third_is = told.third_is }, still.kept)

  -- order 1: and its place is never that of a later fact
  pub clash_never_later : Take b p first after → number first ≡ 11 → Calls b sent c → Take c p r again → place r ≤ place first
  clash_never_later take e calls later = let d = clashed take e in place_not_later d calls (still_clashes d calls later)

module _
    {n n' v : ℕ} {table b b' : List ℕ} {sent sent' : List Sent} (s : Session n v table sent b) (s' : Session n' v table sent' b')
    (same : SameFacts (facts_taken sent) (facts_taken sent')) where
  -- "Two sessions opened with equal kind tables and joint counts, whose taken packets hold the same set of facts, in any order and with
  -- repeats, end with equal bytes"
  pub same_bytes : b ≡ b'
  same_bytes = one_block (session_good s) (session_good t) one_rig (facts_taken sent) (over b (session_means s)) (over b' means)
    where
      t : Session n v table sent' b'
      t = subst (λ (k : ℕ). Session k v table sent' b') (sym (same_kinds s s')) s'

      one_rig : rig_of b ≡ rig_of b'
      one_rig = session_rig s ∙ sym (session_rig t)

      -- the facts taken by the second are those taken by the first
      means : SameMeaning (opened_rig n v table) (taken b') (facts_taken sent)
      means P σ c placed =
          let m = session_means t P σ c placed in
          let R = opened_rig n v table in (
            λ a. members_follow R (facts_taken sent') (facts_taken sent) (λ f. (same f).0) P σ c placed (m.0 a),
            λ a. m.1 (members_follow R (facts_taken sent) (facts_taken sent') (λ f. (same f).1) P σ c placed a),
          )

      over : (x : List ℕ) → SameMeaning (opened_rig n v table) (taken x) (facts_taken sent) → SameMeaning (rig_of b) (taken x) (facts_taken sent)
      over x m = at_rig_lem (λ R. SameMeaning R (taken x) (facts_taken sent)) (sym (session_rig s)) m

  -- "and give every rule the same answer"
  pub same_answers : {p : List ℕ} {r r' : Reply} → Ask b p r → Ask b' p r' → r ≡ r'
  same_answers {p} {r} {r'} a a' = ask_one a (subst (λ (x : List ℕ). Ask x p r') (sym same_bytes) a')

  -- and every packet the same reply, with the same bytes after it
  pub same_replies : {p after after' : List ℕ} {r r' : Reply} → Take b p r after → Take b' p r' after' → (r ≡ r') × (after ≡ after')
  same_replies {p} {after' = after'} {r' = r'} t t' = take_one t (subst (λ (x : List ℕ). Take x p r' after') (sym same_bytes) t')

  -- order 1: so a clashing packet the same place
  pub same_clash_place :
      {p after after' : List ℕ} {r r' : Reply} → Take b p r after → Take b' p r' after' → number r ≡ 11 → (number r' ≡ 11) × (place r' ≡ place r)
  same_clash_place t t' e = let same = (same_replies t t').0 in (ap number (sym same) ∙ e, ap place (sym same))

-- all packets sent are well formed, and one picture and placing satisfy all their facts
module _
    {n v : ℕ} {table b : List ℕ} {sent : List Sent} (s : Session n v table sent b)
    (well : (t : Sent) → Memᴰ t sent → packet_reply (facts_wanted v) n v t.packet ≡ Ok 0)
    (P : Picture n) (σ : RigJoint → ℕ) (counts : Counts (opened_rig n v table).profile P) (placed : Placing P σ)
    (holds : (t : Sent) → Memᴰ t sent → All (meet_of (opened_rig n v table)) P σ (rig_facts t.packet)) where
  pub all_taken : (t : Sent) → Memᴰ t sent → refuses t.reply ≡ false
  all_taken t in_sent = by_taking m.takes
    where
      m : Moment (open_block n v table s.lent) sent t
      m = moment s.calls in_sent

      then : Session n v table m.before m.block
      then = record { lent = s.lent; opens = s.opens; calls = m.calls }

      goes_on : take_refusal m.block t.packet ≡ Ok 0
      goes_on = sent_goes_on t.packet then (well t in_sent)

      satisfied : All (meet_of (opened_rig n v table)) P σ (taken m.block ++ rig_facts t.packet)
      satisfied =
          let meet = meet_of (opened_rig n v table) in
          all_append meet P σ (taken m.block) (rig_facts t.packet)
          ((session_means then P σ counts placed).1 (facts_hold meet P σ m.before (λ u d. holds u (m.among u d))))
          (holds t in_sent)

      no_picture_there : NoPicture (rig_of m.block) (taken m.block ++ rig_facts t.packet) → ⊥
      no_picture_there f =
          at_rig_lem (λ R. NoPicture R (taken m.block ++ rig_facts t.packet)) (session_rig then) f P σ counts placed satisfied

      by_taking : Take m.block t.packet t.reply m.next → refuses t.reply ≡ false
      by_taking (take_refused e q _) = absurd (true≢false (sym e ∙ ap refuses goes_on))
      by_taking (clashes d i f q _) = absurd (no_picture_there (clash_no_picture (rig_of m.block) (taken m.block) (rig_facts t.packet) f))
      by_taking (done d a q) = ap refuses q

  -- "If all packets sent are well formed and one rig satisfies all their facts, no order of sending has one refused for a clash."
  pub no_clash : (t : Sent) → Memᴰ t sent → number t.reply ≢ 11
  no_clash t in_sent e = true≢false (ap refuses (sym (number_clash t.reply e)) ∙ all_taken t in_sent)
