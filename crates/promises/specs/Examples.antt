-- The examples P1 to P12 as one list, and before it their packets, byte by byte: L in two bytes, version, purpose, ties, joint count, then the
-- ties (rule joint, rig joint) and the facts. House kinds, V = 4. Behind them the example of a rig typed as a term, and places of 20.
-- Assumes nothing.
use Rattle.replies.specs.Replies.{Reply}
use Rattle.std.specs.Prelude.{◌≡◌, ◌↔◌, List, [], ◌∷◌, ◌++◌, ℕ, zero, suc, ◌≤◌, length, drop}
use Rattle.kinds.specs.Kinds.{meet_at}
use Rattle.house.specs.Meets.{house_table}
use Rattle.meaning.specs.declared.Verdict.{Verdict}
use Rattle.meaning.specs.declared.Verdict.TheVariants.{Applies, RuledOut, Waits}
use Rattle.meaning.specs.Rule.{verdict_number}
use Rattle.blocks.specs.Layout.{block_size, fresh_block}
use Rattle.opening.specs.Open.{open_reply, open_block}
use Rattle.taking.specs.Take.{Take}
use Rattle.asking.specs.Ask.{Ask}
use Rattle.writing.specs.Write.{solved_form, write_reply, written_output}
use Rattle.terms.specs.Term.{Term, term_text}
use Rattle.terms.specs.Term.Written.{unwritten, written}
use Rattle.terms.specs.Term.Term.{bare, bracketed}
use Rattle.terms.specs.Term.Arguments.{one, more}
use Rattle.term_reading.specs.ReadTerm.{ReadTerm, term_packet}
use Rattle.promises.specs.HostReplies.{Reads}

-- the facts F
unfoldable pub facts_f : List ℕ
facts_f =
    0x00 ∷ 0x1C ∷ 1 ∷ 1 ∷ 0 ∷ 4
    -- 0 has kind 9
    ∷ 1 ∷ 0 ∷ 9 ∷ 0
    -- 0 has kind 2
    ∷ 1 ∷ 0 ∷ 2 ∷ 0
    -- 0.1 is 1
    ∷ 3 ∷ 0 ∷ 1 ∷ 1
    -- 0.1 is 2
    ∷ 3 ∷ 0 ∷ 1 ∷ 2
    -- 1 has kind 16
    ∷ 1 ∷ 1 ∷ 16 ∷ 0
    -- 2 has kind 2
    ∷ 1 ∷ 2 ∷ 2 ∷ 0
    ∷ []

-- the solved form of P5
unfoldable pub solved_f : List ℕ
solved_f =
    0x00 ∷ 0x14 ∷ 0x01 ∷ 0x01 ∷ 0x00 ∷ 0x04
    ∷ 0x01 ∷ 0x00 ∷ 0x0B ∷ 0x00
    ∷ 0x03 ∷ 0x00 ∷ 0x01 ∷ 0x01
    ∷ 0x01 ∷ 0x01 ∷ 0x17 ∷ 0x00
    ∷ 0x02 ∷ 0x02 ∷ 0x01 ∷ 0x00
    ∷ []

-- the rule of P6
unfoldable pub rule6 : List ℕ
rule6 =
    0x00 ∷ 0x12 ∷ 1 ∷ 2 ∷ 1 ∷ 2
    -- rule joint 0 tied to rig joint 0
    ∷ 0 ∷ 0
    -- 0 has kind 9
    ∷ 1 ∷ 0 ∷ 9 ∷ 0
    -- 0.1 is 1
    ∷ 3 ∷ 0 ∷ 1 ∷ 1
    -- 1 has kind 2
    ∷ 1 ∷ 1 ∷ 2 ∷ 0
    ∷ []

-- the rule of P7: that of P6 with kind 3 last
unfoldable pub rule7 : List ℕ
rule7 =
    0x00 ∷ 0x12 ∷ 1 ∷ 2 ∷ 1 ∷ 2
    -- rule joint 0 tied to rig joint 0
    ∷ 0 ∷ 0
    -- 0 has kind 9
    ∷ 1 ∷ 0 ∷ 9 ∷ 0
    -- 0.1 is 1
    ∷ 3 ∷ 0 ∷ 1 ∷ 1
    -- 1 has kind 3
    ∷ 1 ∷ 1 ∷ 3 ∷ 0
    ∷ []

-- the rule of P8
unfoldable pub rule8 : List ℕ
rule8 =
    0x00 ∷ 0x0A ∷ 1 ∷ 2 ∷ 1 ∷ 1
    -- rule joint 0 tied to rig joint 0
    ∷ 0 ∷ 0
    -- 0 has kind 21
    ∷ 1 ∷ 0 ∷ 21 ∷ 0
    ∷ []

-- the rule of P9
unfoldable pub rule9 : List ℕ
rule9 =
    0x00 ∷ 0x0A ∷ 1 ∷ 2 ∷ 1 ∷ 2
    -- rule joint 0 tied to rig joint 0
    ∷ 0 ∷ 0
    -- 0.2 is 1
    ∷ 3 ∷ 0 ∷ 2 ∷ 1
    ∷ []

-- the rule of P10: rule joint 0 tied to rig joints 1 and 2
unfoldable pub rule10 : List ℕ
rule10 =
    0x00 ∷ 0x08 ∷ 1 ∷ 2 ∷ 2 ∷ 1
    ∷ 0 ∷ 1
    ∷ 0 ∷ 2
    ∷ []

-- the rule of P11: rule joint 0 tied to rig joints 1 and 3
unfoldable pub rule11 : List ℕ
rule11 =
    0x00 ∷ 0x08 ∷ 1 ∷ 2 ∷ 2 ∷ 1
    ∷ 0 ∷ 1
    ∷ 0 ∷ 3
    ∷ []

-- the fact of P12
unfoldable pub fact12 : List ℕ
fact12 =
    0x00 ∷ 0x08 ∷ 1 ∷ 1 ∷ 0 ∷ 4
    -- 2 has kind 3
    ∷ 1 ∷ 2 ∷ 3 ∷ 0
    ∷ []

-- taking the packet gives this number, place and third number, and this block afterwards: the contract allows them, and no others
abbrev pub Takes : List ℕ → List ℕ → ℕ → ℕ → ℕ → List ℕ → Type 0
Takes b p number place third after = (r : Reply) (x : List ℕ) → Take b p r x ↔ (Reads r number place third × (x ≡ after))

-- asking the packet gives this verdict: the contract allows it, and no other reply
abbrev pub Asks : List ℕ → List ℕ → Verdict → Type 0
Asks b p verdict = (r : Reply) → Ask b p r ↔ Reads r 0 0 (verdict_number verdict)

-- the block that opening writes
abbrev pub opened : List ℕ
opened = fresh_block 33 4 house_table

pub record Examples : Type 0 where
  -- whatever the block's bytes were, opening it gives `opened`
  pub opens : (b : List ℕ) → length b ≡ block_size → Reads (open_reply 33 4 house_table b) 0 0 0 × (open_block 33 4 house_table b ≡ opened)
  pub p1 : meet_at 33 house_table 2 9 ≡ 11
  pub p2 : meet_at 33 house_table 3 17 ≡ 26
  pub p3 : meet_at 33 house_table 11 18 ≡ 0
  -- the block after F
  pub after : List ℕ
  -- F is taken with 1 join
  pub p4 : Takes opened facts_f 0 0 1 after
  -- its solved form, and the call that writes its 22 bytes to any output which has room for them
  pub p5 : solved_form after ≡ solved_f
  pub p5_written :
      (out : List ℕ) → 22 ≤ length out → Reads (write_reply after out) 0 0 22 × (written_output after out ≡ solved_f ++ drop 22 out)
  -- the verdicts on the rules, after F
  pub p6 : Asks after rule6 Applies
  pub p7 : Asks after rule7 RuledOut
  pub p8 : Asks after rule8 Waits
  pub p9 : Asks after rule9 Waits
  pub p10 : Asks after rule10 Applies
  pub p11 : Asks after rule11 Waits
  -- F, then "2 has kind 3": 11 at that fact, block unchanged
  pub p12 : Takes after fact12 11 6 0 after

-- a rig typed as a term: joint 0 has kind 11, its link 1 leads to joint 1, which has kind 16, and its link 2 to joint 3
unfoldable pub typed_term : Term
typed_term = bracketed 0 (written 11) (more 1 (bare 1 (written 16)) (one 2 (bare 3 unwritten)))

-- `@0:11(1=>@1:16,2=>@3)`, in ASCII
unfoldable pub typed_text : List ℕ
typed_text =
    -- `@0:11(`
    64 ∷ 48 ∷ 58 ∷ 49 ∷ 49 ∷ 40
    -- `1=>@1:16,`
    ∷ 49 ∷ 61 ∷ 62 ∷ 64 ∷ 49 ∷ 58 ∷ 49 ∷ 54 ∷ 44
    -- `2=>@3)`
    ∷ 50 ∷ 61 ∷ 62 ∷ 64 ∷ 51 ∷ 41
    ∷ []

-- its facts for V = 4
unfoldable pub typed_packet : List ℕ
typed_packet =
    0x00 ∷ 0x14 ∷ 0x01 ∷ 0x01 ∷ 0x00 ∷ 0x04
    -- 0 has kind 11
    ∷ 0x01 ∷ 0x00 ∷ 0x0B ∷ 0x00
    -- 0.1 is 1
    ∷ 0x03 ∷ 0x00 ∷ 0x01 ∷ 0x01
    -- 1 has kind 16
    ∷ 0x01 ∷ 0x01 ∷ 0x10 ∷ 0x00
    -- 0.2 is 3
    ∷ 0x03 ∷ 0x00 ∷ 0x02 ∷ 0x03
    ∷ []

pub record TermExample : Type 0 where
  pub text : term_text typed_term ≡ typed_text
  pub size : length typed_text ≡ 21
  pub packet : term_packet 4 typed_term ≡ typed_packet
  -- read into any output which has room for the 22 bytes: the contract allows this, and nothing else
  pub reads : (out : List ℕ) → 22 ≤ length out → (r : Reply) (x : List ℕ) →
      ReadTerm opened typed_text out r x ↔ (Reads r 0 0 22 × (x ≡ typed_packet ++ drop 22 out))

-- reading the text gives 20 at this place, and leaves the output as it was: the contract allows this, and nothing else
abbrev pub StopsAt : List ℕ → ℕ → Type 0
StopsAt text p = (out : List ℕ) (r : Reply) (x : List ℕ) → ReadTerm opened text out r x ↔ (Reads r 20 p 0 × (x ≡ out))

-- joint 0 in joint 0 in joint 0, by link 0 each, so many levels below the first term
unfoldable pub nested : ℕ → Term
nested zero = bare 0 unwritten
nested (suc levels) = bracketed 0 unwritten (one 0 (nested levels))

-- a text stops where nothing can continue it
pub record TermPlaces : Type 0 where
  -- the empty text at its end
  pub empty : StopsAt [] 0
  -- `@`, at its end
  pub ended : StopsAt (64 ∷ []) 1
  -- `@01`: no leading zero
  pub leading : StopsAt (64 ∷ 48 ∷ 49 ∷ []) 2
  -- `@1234`: three digits at most
  pub four : StopsAt (64 ∷ 49 ∷ 50 ∷ 51 ∷ 52 ∷ []) 4
  -- `@0()`: one argument at least
  pub none : StopsAt (64 ∷ 48 ∷ 40 ∷ 41 ∷ []) 3
  -- `@0@`: nothing behind the whole term
  pub behind : StopsAt (64 ∷ 48 ∷ 64 ∷ []) 2
  -- `@0(0=>@0(0=>..@0(0=>@0`, a 17th level: at the bracket of the 16th term
  pub deep : StopsAt (term_text (nested 16)) 92
