-- What the program decides: how a run goes on from the bytes that state a packet's length, whether it goes on at all, which call a packet is
-- for, and the line of each call with the block behind it.
-- Assumes nothing.
use Rattle.std.specs.Prelude.{◌≡◌, Bool, true, false, ◌&&◌, cond, List, [], ◌∷◌, ℕ, ◌+◌, ◌*◌, ◌≤◌, ◌<◌, eqb, leb, ltb, length, get_or, take}
use Rattle.replies.specs.Replies.{refuses, Reply}
use Rattle.house.specs.Meets.{house_table}
use Rattle.opening.specs.Open.{open_reply, open_block}
use Rattle.taking.specs.Take.{Take}
use Rattle.asking.specs.Ask.{Ask}
use Rattle.lines.specs.Text.{line, line_of}
use Rattle.rigcheck.specs.declared.Step.{Step}
use Rattle.rigcheck.specs.declared.Step.TheVariants.{End, Cut, Long, Packet}

-- the words `open`, `facts`, `rule`, `cut` and `long`, in ASCII
abbrev pub open_word : List ℕ
open_word = 111 ∷ 112 ∷ 101 ∷ 110 ∷ []

abbrev pub facts_word : List ℕ
facts_word = 102 ∷ 97 ∷ 99 ∷ 116 ∷ 115 ∷ []

abbrev pub rule_word : List ℕ
rule_word = 114 ∷ 117 ∷ 108 ∷ 101 ∷ []

abbrev pub cut_word : List ℕ
cut_word = 99 ∷ 117 ∷ 116 ∷ []

abbrev pub long_word : List ℕ
long_word = 108 ∷ 111 ∷ 110 ∷ 103 ∷ []

abbrev pub house_kinds : ℕ
house_kinds = 33

-- `open`, with the house kinds: its line, whether it ends the run, and the block afterwards
pub record Opening (v : ℕ) (b text : List ℕ) (ends : Bool) (after : List ℕ) : Type 0 where
  pub told : text ≡ line_of open_word (open_reply house_kinds v house_table b)
  pub stops : ends ≡ refuses (open_reply house_kinds v house_table b)
  pub block : after ≡ open_block house_kinds v house_table b

-- the largest L of a packet: 4 + 2 × 8 ties + 4 × 1,088 facts
abbrev pub longest : ℕ
longest = 4372

-- how the run goes on where `got` of the two bytes of L could be read: no packet is left, the input is cut, L is too long, or as many
-- bytes more are to be read
unfoldable pub step_of : ℕ → List ℕ → Step
step_of got p =
    cond (eqb got 0) End
    (cond (ltb got 2) Cut
    (cond (ltb longest (256 * get_or p 0 0 + get_or p 1 0)) Long
    (Packet (256 * get_or p 0 0 + get_or p 1 0))))

-- the run goes on only behind a whole packet: `cut` and `long` stop it
abbrev pub goes_on : Step → ℕ → Bool
goes_on End rest = false
goes_on Cut rest = false
goes_on Long rest = false
goes_on (Packet size) rest = leb size rest

-- packets with byte 3 = 1 are facts, others are rules
abbrev pub is_facts : List ℕ → Bool
is_facts p = ltb 3 (length p) && eqb (get_or p 3 0) 1

-- the line of a whole packet is that of its call's reply, and the block afterwards is the call's
pub data Answered (b p text after : List ℕ) : Type 0 where
  facts : (reply : Reply) → is_facts p ≡ true → Take b p reply after → text ≡ line_of facts_word reply → Answered b p text after
  rule : (reply : Reply) → is_facts p ≡ false → Ask b p reply → after ≡ b → text ≡ line_of rule_word reply → Answered b p text after

-- one turn of the run: its line and the block afterwards, where p has the bytes read, `rest` of them behind L
pub data Turn (b p : List ℕ) (step : Step) (rest : ℕ) (text after : List ℕ) : Type 0 where
  no_packet : step ≡ End → text ≡ [] → after ≡ b → Turn b p step rest text after
  cut_in_length : step ≡ Cut → text ≡ line cut_word 5 0 0 → after ≡ b → Turn b p step rest text after
  too_long : step ≡ Long → text ≡ line long_word 5 0 0 → after ≡ b → Turn b p step rest text after
  cut_behind : (size : ℕ) → step ≡ Packet size → rest < size → text ≡ line cut_word 5 0 0 → after ≡ b → Turn b p step rest text after
  whole : (size : ℕ) → step ≡ Packet size → size ≤ rest → Answered b (take (2 + size) p) text after → Turn b p step rest text after
