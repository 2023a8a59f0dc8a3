-- "The host gets one 64-bit number: number + 256 × third + 2^32 × place", and it gets no less: number, third and place are its parts, and
-- the reply is told by them. Of each call: the number that it hands the host has the parts of the reply of the session's call.
-- Assumes nothing.
use mathlib.Core.Path.{◌≡◌, refl, sym, ◌∙◌, ap}
use mathlib.Core.Bool.{Bool, true, false}
use mathlib.Core.List.{List}
use Prim.Native.Nat.{ℕ, ◌+◌, ◌*◌, ◌/◌, ◌%◌, ◌^◌, ◌<◌}
use native.Mathlib.Omega.{arith}
use lib.Arith.{digits_div, digits_mod}
use lib.Dec.{eqb}
use lib.ListN.{length}
use Rattle.replies.specs.declared.Cause.TheVariants.{BadSize}
use Rattle.replies.specs.Replies.{number, place, third, packed, unless, Reply}
use Rattle.opening.specs.Open.{open_reply}
use Rattle.opening.proofs.Opening.{open_third}
use Rattle.taking.specs.Take.{Take}
use Rattle.taking.proofs.OneTake.{take_one}
use Rattle.asking.specs.Ask.{Ask}
use Rattle.asking.proofs.OneAsk.{ask_one}
use Rattle.writing.specs.Write.{write_reply}
use Rattle.writing.proofs.Writing.{write_third}
use Rattle.term_reading.specs.ReadTerm.{ReadTerm}
use Rattle.term_reading.proofs.OneRead.{read_term_one}
use Rattle.term_reading.proofs.ReadThird.{read_term_third}
use Rattle.term_writing.specs.WriteTerm.{WriteTerm}
use Rattle.term_writing.proofs.OneWrite.{write_term_one}
use Rattle.term_writing.proofs.WrittenText.{write_term_third}
use Rattle.vornulica.specs.House.{house_reply}
use Rattle.vornulica.specs.Host.{HostNumber}
use Rattle.vornulica.proofs.Thirds.{small, take_third, ask_third}
use Rattle.promises.specs.HostReplies.{Splits}
use Rattle.promises.proofs.Readings.{number_few, reads_one}

module _ (n t p : ℕ) (n_few : n < 256) (t_few : t < 2 ^ 24) where
  abbrev whole : ℕ
  whole = n + 256 * t + 2 ^ 32 * p

  low : whole ≡ (p * 2 ^ 24 + t) * 256 + n
  low = omega arith

  high : whole ≡ p * 2 ^ 32 + (t * 256 + n)
  high = omega arith

  low_part : whole % 256 ≡ n
  low_part = rw low (digits_mod (p * 2 ^ 24 + t) n_few)

  middle_part : whole / 256 % 2 ^ 24 ≡ t
  middle_part = rw (low, digits_div (p * 2 ^ 24 + t) n_few) (digits_mod p t_few)

  high_part : whole / 2 ^ 32 ≡ p
  high_part = rw high (digits_div p (omega arith))

-- the packed number gives back its three parts
pub packed_splits : (r : Reply) → third r < 2 ^ 24 → Splits (packed r) r
packed_splits r h =
    record {
      number_is = sym (low_part (number r) (third r) (place r) (number_few r) h);
      place_is = sym (high_part (number r) (third r) (place r) (number_few r) h);
      third_is = sym (middle_part (number r) (third r) (place r) (number_few r) h);
    }

-- two replies with the same packed number are the same
pub packed_one : (r s : Reply) → third r < 2 ^ 24 → third s < 2 ^ 24 → packed r ≡ packed s → r ≡ s
packed_one r s h k e = reads_one (packed_splits r h) (rw e (packed_splits s k))

-- a host's number that is the packed one of a reply
handed : {x : ℕ} (r : Reply) → third r < 2 ^ 24 → x ≡ packed r → Splits x r
handed r h e = rw e (packed_splits r h)

-- what `rig_open` hands the host
pub open_number : {x : ℕ} (n v : ℕ) (table b : List ℕ) → x ≡ packed (open_reply n v table b) → Splits x (open_reply n v table b)
open_number n v table b e = handed (open_reply n v table b) (small (open_reply n v table b) (open_third n v table b)) e

-- what `rig_take` hands the host, with the reply that the contract of taking allows
pub take_number : {b p after after' : List ℕ} {x : ℕ} {r : Reply} → HostNumber (λ r. Take b p r after) x → Take b p r after' → Splits x r
take_number {r = r} s t = handed r (take_third t) (s.told ∙ ap packed (take_one s.allowed t).0)

-- what `rig_ask` hands the host, with the reply that the contract of asking allows
pub ask_number : {b p : List ℕ} {x : ℕ} {r : Reply} → HostNumber (λ r. Ask b p r) x → Ask b p r → Splits x r
ask_number {r = r} s t = handed r (ask_third t) (s.told ∙ ap packed (ask_one s.allowed t))

-- what `rig_write` hands the host
pub write_number : {x : ℕ} (b out : List ℕ) → x ≡ packed (write_reply b out) → Splits x (write_reply b out)
write_number b out e = handed (write_reply b out) (write_third b out) e

-- what `rig_read_term` hands the host, with the reply that the contract of reading allows
pub read_term_number : {b text out after after' : List ℕ} {x : ℕ} {r : Reply} → HostNumber (λ r. ReadTerm b text out r after) x →
    ReadTerm b text out r after' → Splits x r
read_term_number {b} {text} {out} {r = r} s t = handed r (read_term_third t) (s.told ∙ ap packed (read_term_one b text out s.allowed t).0)

-- what `rig_write_term` hands the host, with the reply that the contract of writing allows
pub write_term_number : {b out after after' : List ℕ} {root x : ℕ} {r : Reply} → HostNumber (λ r. WriteTerm b root out r after) x →
    WriteTerm b root out r after' → Splits x r
write_term_number {b} {out} {root = root} {r = r} s t =
    handed r (write_term_third t) (s.told ∙ ap packed (write_term_one b root out s.allowed t).0)

-- what `rig_house` hands the host
pub house_number : {x : ℕ} (buffer : List ℕ) → x ≡ packed (house_reply buffer) → Splits x (house_reply buffer)
house_number buffer e = handed (house_reply buffer) (small (house_reply buffer) (by_size (eqb (length buffer) 1089))) e
  where
    by_size : (t : Bool) → third (unless t BadSize 0) ≡ 0
    by_size true = refl
    by_size false = refl

-- one result for each call, as the host gets it: opening, writing and the house table are equations in their contracts

-- the same number, and the same block afterwards
pub take_number_one :
    {b p after after' : List ℕ} {x y : ℕ} → HostNumber (λ r. Take b p r after) x → HostNumber (λ r. Take b p r after') y → (x ≡ y) × (after ≡ after')
take_number_one s t = let e = take_one s.allowed t.allowed in (s.told ∙ ap packed e.0 ∙ sym t.told, e.1)

-- the same number, and the same output afterwards
pub read_term_number_one : {b text out after after' : List ℕ} {x y : ℕ} → HostNumber (λ r. ReadTerm b text out r after) x →
    HostNumber (λ r. ReadTerm b text out r after') y → (x ≡ y) × (after ≡ after')
read_term_number_one {b} {text} {out} s t =
    let e = read_term_one b text out s.allowed t.allowed in (s.told ∙ ap packed e.0 ∙ sym t.told, e.1)

pub write_term_number_one : {b out after after' : List ℕ} {root x y : ℕ} → HostNumber (λ r. WriteTerm b root out r after) x →
    HostNumber (λ r. WriteTerm b root out r after') y → (x ≡ y) × (after ≡ after')
write_term_number_one {b} {out} {root = root} s t =
    let e = write_term_one b root out s.allowed t.allowed in (s.told ∙ ap packed e.0 ∙ sym t.told, e.1)

-- the same number
pub ask_number_one : {b p : List ℕ} {x y : ℕ} → HostNumber (λ r. Ask b p r) x → HostNumber (λ r. Ask b p r) y → x ≡ y
ask_number_one s t = s.told ∙ ap packed (ask_one s.allowed t.allowed) ∙ sym t.told
