-- The examples P1 to P12, as one list: each is shown where it is at home, and here put together, with opening before them. Behind them the
-- example of a rig typed as a term, by computing its text and its packet.
-- Assumes nothing.
use mathlib.Core.Path.{◌≡◌, refl, sym, ap, ◌∙◌}
use mathlib.Core.Logic.{◌↔◌}
use mathlib.Core.Bool.{true}
use mathlib.Core.List.{List, ◌++◌}
use Prim.Native.Nat.{ℕ, ◌≤◌}
use native.Mathlib.Omega.{arith}
use lib.ListN.{length, drop}
use borrow.Author.Tests.{eq-eqb}
use Rattle.std.specs.Prelude.{Ok}
use Rattle.replies.specs.Replies.{refuses, Reply}
use Rattle.house.specs.Meets.{house_table}
use Rattle.house.proofs.Rule.{house_passes}
use Rattle.house.proofs.Examples as house
use Rattle.meaning.specs.Rig.{Rig}
use Rattle.packets.specs.FactsPacket.{facts_packet, all_bytes}
use Rattle.joints.specs.Layout.{taken}
use Rattle.blocks.specs.Layout.{block_size}
use Rattle.opening.specs.Open.{sizes_fit, open_reply, open_block}
use Rattle.opening.proofs.Opening.{then_table, is_fresh}
use Rattle.writing.specs.Write.{solved_form, write_reply, written_output}
use Rattle.writing.proofs.Writing.{write_done}
use Rattle.decimals.specs.Decimal.{digits}
use Rattle.terms.specs.Term.{text_of, term_text, term_tokens}
use Rattle.terms.specs.Facts.{term_facts}
use Rattle.terms.specs.Language.{Reading}
use Rattle.term_reading.specs.Range.{range_reply}
use Rattle.term_reading.specs.ReadTerm.{ReadTerm, read_term_refusal, term_packet}
use Rattle.term_reading.proofs.OneRead.{Readable, reads, reads_only}
use Rattle.promises.specs.Examples.{Examples, opened, solved_f, TermExample, typed_term, typed_text, typed_packet}
use Rattle.promises.specs.HostReplies.{Reads}
use Rattle.promises.proofs.Readings.{reads_exactly}
use Rattle.promises.proofs.ExampleBlock.{after_f, after_rig, after_good, facts_after, after_taken}
use Rattle.promises.proofs.TermPlaces.{opened_passes}
use Rattle.promises.proofs.ExampleTake.{takes_F, takes_12}
use Rattle.promises.proofs.ExampleAsk.{p6, p7, p8, p9, p10, p11}

module _ (b : List ℕ) (size : length b ≡ block_size) where
  sizes_fit_lem : sizes_fit 33 4 house_table b ≡ true
  unfolding house_table
  sizes_fit_lem = rw (eq-eqb (length b) block_size size)

  opens_done : open_reply 33 4 house_table b ≡ Ok 0
  opens_done = then_table 33 4 house_table b sizes_fit_lem ∙ house_passes

  opens_fresh : open_block 33 4 house_table b ≡ opened
  opens_fresh = sym (is_fresh 33 4 house_table b (ap refuses opens_done))

-- P5: the packet of the four facts
packet_F : facts_packet 4 facts_after ≡ solved_f
unfolding all_bytes solved_f
packet_F = refl

p5 : solved_form after_f ≡ solved_f
p5 = ap (λ (R : Rig). facts_packet R.joints (taken after_f)) after_rig ∙ ap (facts_packet 4) after_taken ∙ packet_F

-- the call writes it
solved_size : length solved_f ≡ 22
unfolding solved_f
solved_size = refl

-- the size of the solved form, and the call that writes it
form_size : length (solved_form after_f) ≡ 22
form_size = ap length p5 ∙ solved_size

module _ (out : List ℕ) (room : 22 ≤ length out) where
  writes : (write_reply after_f out ≡ Ok (length (solved_form after_f)))
      × (written_output after_f out ≡ solved_form after_f ++ drop (length (solved_form after_f)) out)
  writes = write_done after_f out after_good (omega (arith, form_size))

  writes_22 : write_reply after_f out ≡ Ok 22
  writes_22 = writes.0 ∙ ap Ok form_size

  writes_bytes : written_output after_f out ≡ solved_f ++ drop 22 out
  writes_bytes =
      writes.1
      ∙ ap (λ (form : List ℕ). form ++ drop (length (solved_form after_f)) out) p5
      ∙ ap (λ (size : ℕ). solved_f ++ drop size out) form_size

pub examples : Examples
examples =
    record {
      opens = λ b size. ((reads_exactly (open_reply 33 4 house_table b) (Ok 0)).0 (opens_done b size), opens_fresh b size);
      p1 = house.p1;
      p2 = house.p2;
      p3 = house.p3;
      after = after_f;
      p4 = takes_F;
      p5 = p5;
      p5_written = λ out room. ((reads_exactly (write_reply after_f out) (Ok 22)).0 (writes_22 out room), writes_bytes out room);
      p6 = p6;
      p7 = p7;
      p8 = p8;
      p9 = p9;
      p10 = p10;
      p11 = p11;
      p12 = takes_12;
    }

-- the rig typed as a term
typed_text_lem : term_text typed_term ≡ typed_text
unfolding typed_term typed_text text_of term_tokens digits
typed_text_lem = refl

typed_size : length typed_text ≡ 21
unfolding typed_text
typed_size = refl

typed_packet_lem : term_packet 4 typed_term ≡ typed_packet
unfolding typed_term typed_packet term_facts all_bytes
typed_packet_lem = refl

packet_size : length typed_packet ≡ 22
unfolding typed_packet
packet_size = refl

-- it is in the language and in range
typed_reads : Reading typed_text typed_term
unfolding typed_term
typed_reads =
    record {
      spelled = sym typed_text_lem;
      fits = (omega arith, omega arith, (omega arith, (omega arith, omega arith), (omega arith, (omega arith, tt))));
    }

typed_in_range : range_reply 33 4 0 (term_tokens typed_term) ≡ Ok 0
unfolding typed_term term_tokens range_reply digits
typed_in_range = refl

typed_few : length (term_facts typed_term) ≡ 4
unfolding typed_term term_facts
typed_few = refl

typed_passes : read_term_refusal opened typed_text ≡ Ok 0
typed_passes = opened_passes typed_text (omega (arith, typed_size))

module _ (out : List ℕ) (room : 22 ≤ length out) where
  typed_readable : Readable opened typed_term out
  typed_readable =
      record { in_range = typed_in_range; few = omega (arith, typed_few); room = omega (arith, ap length typed_packet_lem, packet_size) }

  -- the packet and its size, as they were computed
  replies_22 : ◌≡◌ {A = Reply} (Ok (length (term_packet 4 typed_term))) (Ok 22)
  replies_22 = ap (λ (t : ℕ). Ok t) (ap length typed_packet_lem ∙ packet_size)

  puts_packet : term_packet 4 typed_term ++ drop (length (term_packet 4 typed_term)) out ≡ typed_packet ++ drop 22 out
  puts_packet = ap (λ (p : List ℕ). p ++ drop (length p) out) typed_packet_lem ∙ ap (λ (k : ℕ). typed_packet ++ drop k out) packet_size

  read_so : (r : Reply) (x : List ℕ) → ReadTerm opened typed_text out r x ↔ (Reads r 0 0 22 × (x ≡ typed_packet ++ drop 22 out))
  read_so r x = (
    λ a.
        let e = reads_only opened typed_text out typed_passes typed_term typed_reads typed_readable a in
        ((reads_exactly r (Ok 22)).0 (e.0 ∙ replies_22), e.1 ∙ puts_packet),
    λ e.
        rw ((reads_exactly r (Ok 22)).1 e.0 ∙ sym replies_22, e.1 ∙ sym puts_packet)
        (reads opened typed_text out typed_passes typed_term typed_reads typed_readable),
  )

pub term_example : TermExample
term_example = record { text = typed_text_lem; size = typed_size; packet = typed_packet_lem; reads = read_so }
