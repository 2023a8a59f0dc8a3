-- Demand 3 for the numbers that the host gets: 256 is "applies", 512 "ruled out", and a number is refused for a clash where its lowest byte
-- is 11. Each from the sentence on replies, since the number tells the reply.
-- Assumes nothing.
use mathlib.Core.Path.{◌≡◌, sym, ◌∙◌, ap, subst}
use mathlib.Core.Logic.{◌≢◌}
use mathlib.Core.List.{List, Memᴰ}
use Prim.Native.Nat.{ℕ, ◌/◌, ◌%◌, ◌^◌, ◌<◌, ◌≤◌}
use native.Mathlib.Omega.{arith}
use Rattle.std.specs.Prelude.{Ok}
use Rattle.replies.specs.Replies.{number, place, third, packed, Reply}
use Rattle.meaning.specs.declared.RigJoint.{RigJoint}
use Rattle.meaning.specs.declared.Verdict.{Verdict}
use Rattle.meaning.specs.declared.Verdict.TheVariants as verdict
use Rattle.meaning.specs.Picture.{Picture, Placing, All}
use Rattle.meaning.specs.Rig.{meet_of, Counts}
use Rattle.meaning.specs.Rule.{verdict_number}
use Rattle.packets.specs.Facts.{rig_facts}
use Rattle.screening.specs.Screening.{packet_reply, facts_wanted}
use Rattle.taking.specs.Take.{Take}
use Rattle.asking.specs.Ask.{Ask}
use Rattle.vornulica.specs.Host.{HostNumber}
use Rattle.vornulica.proofs.Thirds.{take_third, ask_third}
use Rattle.promises.specs.Sessions.{Sent, Calls, Session, opened_rig, facts_taken, SameFacts}
use Rattle.promises.proofs.Later.{verdict_stays}
use Rattle.promises.proofs.Sessions.{moment}
use Rattle.promises.proofs.HostNumbers.{packed_splits, packed_one}
use Rattle.promises.proofs.Demand3.{clash_stays, clash_never_later, same_answers, same_replies, no_clash}

-- "a rule that once applies or is ruled out .. gets that verdict at every later asking"
module _ {b c p : List ℕ} {sent : List Sent} {x y : ℕ} where
  stays :
      (v : Verdict) → v ≢ verdict.Waits → verdict_number v < 2 ^ 24 → HostNumber (λ r. Ask b p r) x → x ≡ packed (Ok (verdict_number v)) → Calls b sent c →
      HostNumber (λ r. Ask c p r) y → y ≡ packed (Ok (verdict_number v))
  stays v d few first e calls later =
      let reply = packed_one first.reply (Ok (verdict_number v)) (ask_third first.allowed) few (sym first.told ∙ e) in
      later.told ∙ ap packed (verdict_stays v d (subst (λ (r : Reply). Ask b p r) reply first.allowed) calls later.allowed)

  pub host_applies_stays : HostNumber (λ r. Ask b p r) x → x ≡ 256 → Calls b sent c → HostNumber (λ r. Ask c p r) y → y ≡ 256
  host_applies_stays = stays verdict.Applies (λ e. omega (arith, ap verdict_number e)) (omega arith)

  pub host_ruled_out_stays : HostNumber (λ r. Ask b p r) x → x ≡ 512 → Calls b sent c → HostNumber (λ r. Ask c p r) y → y ≡ 512
  host_ruled_out_stays = stays verdict.RuledOut (λ e. omega (arith, ap verdict_number e)) (omega arith)

-- the lowest byte of the host's number is the reply's number
low_byte : (r : Reply) → third r < 2 ^ 24 → packed r % 256 ≡ number r
low_byte r few = sym (packed_splits r few).number_is

-- of a taking: 11 in the lowest byte, and the place above
module _ {b p after : List ℕ} {x : ℕ} (h : HostNumber (λ r. Take b p r after) x) where
  eleven : x % 256 ≡ 11 → number h.reply ≡ 11
  eleven e = sym (low_byte h.reply (take_third h.allowed)) ∙ ap (λ (z : ℕ). z % 256) (sym h.told) ∙ e

  at_place : place h.reply ≡ x / 2 ^ 32
  at_place = (packed_splits h.reply (take_third h.allowed)).place_is ∙ ap (λ (z : ℕ). z / 2 ^ 32) (sym h.told)

-- "and a packet refused for a clash is refused for a clash at every later sending"
pub host_clash_stays :
    {b c p after again : List ℕ} {sent : List Sent} {x y : ℕ} → HostNumber (λ r. Take b p r after) x → x % 256 ≡ 11 → Calls b sent c →
    HostNumber (λ r. Take c p r again) y → (y % 256 ≡ 11) × (again ≡ c)
host_clash_stays first e calls later =
    let still = clash_stays first.allowed (eleven first e) calls later.allowed in
    (ap (λ (z : ℕ). z % 256) later.told ∙ low_byte later.reply (take_third later.allowed) ∙ still.0.number_is, still.1)

-- order 1: at a later sending the place is never that of a later fact
pub host_clash_never_later :
    {b c p after again : List ℕ} {sent : List Sent} {x y : ℕ} → HostNumber (λ r. Take b p r after) x → x % 256 ≡ 11 → Calls b sent c →
    HostNumber (λ r. Take c p r again) y → y / 2 ^ 32 ≤ x / 2 ^ 32
host_clash_never_later first e calls later =
    let fewer = clash_never_later first.allowed (eleven first e) calls later.allowed in
    rw (sym (at_place later), sym (at_place first)) fewer

-- "Two sessions .. give every rule the same answer"
pub host_same_answers :
    {n n' v : ℕ} {table b b' p : List ℕ} {sent sent' : List Sent} {x y : ℕ} → Session n v table sent b → Session n' v table sent' b' →
    SameFacts (facts_taken sent) (facts_taken sent') → HostNumber (λ r. Ask b p r) x → HostNumber (λ r. Ask b' p r) y → x ≡ y
host_same_answers s s' same a a' = a.told ∙ ap packed (same_answers s s' same a.allowed a'.allowed) ∙ sym a'.told

-- and every packet the same number, so that a clashing one gets the same place
pub host_same_replies :
    {n n' v : ℕ} {table b b' p after after' : List ℕ} {sent sent' : List Sent} {x y : ℕ} → Session n v table sent b → Session n' v table sent' b' →
    SameFacts (facts_taken sent) (facts_taken sent') → HostNumber (λ r. Take b p r after) x → HostNumber (λ r. Take b' p r after') y →
    (x ≡ y) × (after ≡ after')
host_same_replies s s' same t t' =
    let e = same_replies s s' same t.allowed t'.allowed in (t.told ∙ ap packed e.0 ∙ sym t'.told, e.1)

-- "If all packets sent are well formed and one rig satisfies all their facts, no order of sending has one refused for a clash."
pub host_no_clash :
    {n v : ℕ} {table b : List ℕ} {sent : List Sent} (s : Session n v table sent b)
    (well : (t : Sent) → Memᴰ t sent → packet_reply (facts_wanted v) n v t.packet ≡ Ok 0)
    (P : Picture n) (σ : RigJoint → ℕ) (counts : Counts (opened_rig n v table).profile P) (placed : Placing P σ)
    (holds : (t : Sent) → Memᴰ t sent → All (meet_of (opened_rig n v table)) P σ (rig_facts t.packet)) →
    (t : Sent) → Memᴰ t sent → packed t.reply % 256 ≢ 11
host_no_clash s well P σ counts placed holds t in_sent e =
    no_clash s well P σ counts placed holds t in_sent
    (sym (low_byte t.reply (take_third (moment s.calls in_sent).takes)) ∙ e)
