-- What the parts of the reader find in a text. No exported contract rests on these.
-- Assumes nothing.
use Rattle.std.specs.Prelude.{◌≡◌, ◌≢◌, false, List, [], ◌∷◌, ◌++◌, map, ℕ, suc, ◌+◌, ◌*◌, ◌%◌, ◌<◌, ◌≤◌, length, take, drop, Option, Some, None, Result, Ok, Err}
use Rattle.replies.specs.declared.Cause.TheVariants.{OutOfRange, NoTerm as no_term_cause}
use Rattle.replies.specs.Replies.{first_refusal, Reply, refusal}
use Rattle.meaning.specs.Picture.{Fact}
use Rattle.meaning.specs.Picture.Fact.{leads}
use Rattle.writing.specs.Putting.{form_bytes}
use Rattle.decimals.specs.Decimal.{digit, decimal}
use Rattle.terms.specs.Term.{Written, Term, Arguments, Token, at_sign, colon, closing}
use Rattle.terms.specs.Term.{kind_tokens, head_tokens, link_tokens, term_tokens, argument_tokens, text_of, term_text}
use Rattle.terms.specs.Term.Written.{unwritten, written}
use Rattle.terms.specs.Term.Token.{sign, joint}
use Rattle.terms.specs.Language.{Short, KindShort, Fits, ArgumentsFit, deepest, Reading, Begun, NoTerm}
use Rattle.terms.specs.Facts.{joint_of, kind_facts, term_facts, argument_facts}
use Rattle.terms.specs.Machine.{Role, here, is_digit, step, run, start, behind_number, behind_head, behind_term, digits_left, end_of, end_of_head}
use Rattle.terms.specs.Machine.Role.{of_joint, of_kind, of_link}
use Rattle.terms.specs.Machine.Phase.{awaiting, number, digits}
use Rattle.terms.specs.Machine.State.{live}
use Rattle.term_reading.specs.declared.Front.{Front}
use Rattle.term_reading.specs.declared.Stuck.{Stuck}
use Rattle.term_reading.specs.Range.{range_reply}
use Rattle.term_reading.specs.ReadTerm.{longest_text, most_facts, term_reply, term_output}

-- what holds of an answer
pub record Told {Answer : Type 0} (Holds : Answer → Type 0) (answer : Answer) : Type 0 where
  pub is : Holds answer

-- the digit of x stands at p
pub record DigitAt (text : List ℕ) (p x : ℕ) : Type 0 where
  pub small : x < 10
  pub stands : here text p ≡ digit x

-- A number stands at `from`, up to `end`: what stands there is no digit of it.
pub record NumberRead (text : List ℕ) (from x end : ℕ) : Type 0 where
  pub short : Short x
  pub spelled : take end text ≡ take from text ++ decimal x
  pub ends : end ≡ from + length (decimal x)
  pub inside : end ≤ length text
  pub ended : (role : Role) (around : ℕ) → step (live around (digits role (digits_left x))) (here text end) ≡ behind_number role around (here text end)

abbrev pub NumberAt : List ℕ → ℕ → Result (ℕ × ℕ) Stuck → Type 0
NumberAt text from (Ok read) = NumberRead text from read.0 read.1
NumberAt text from (Err stuck) = (is_digit (here text from) ≡ false) × (stuck.0 ≡ from)

-- a front that a reader may stand at: within a text that is no longer than may be, and with no more facts than bytes read
pub record Sound (text : List ℕ) (f : Front) : Type 0 where
  pub long : length text ≤ longest_text
  pub inside : f.at ≤ length text
  pub few : f.facts ≤ f.at

-- refused at the first number out of range, done where there is none
abbrev pub wrong_reply : Option ℕ → Reply
wrong_reply None = Ok 0
wrong_reply (Some p) = refusal OutOfRange p

-- from one front to the other the text has these tokens, and the first number out of range is the first one before or among them
pub record Segment (text : List ℕ) (n v : ℕ) (from : Front) (tokens : List Token) (end : Front) : Type 0 where
  pub spelled : take end.at text ≡ take from.at text ++ text_of tokens
  pub ends : end.at ≡ from.at + length (text_of tokens)
  pub inside : end.at ≤ length text
  pub range : wrong_reply end.wrong ≡ first_refusal (wrong_reply from.wrong ∷ []) (range_reply n v from.at tokens)

abbrev pub low : ℕ → ℕ
low x = x % 256

-- the bytes of facts, as a packet has them where every number is below 256
abbrev pub low_bytes : List (Fact ℕ) → List ℕ
low_bytes fs = map low (form_bytes fs)

-- the packet s has become t by these facts, put behind its first six bytes and k facts; those that find no room are counted alone
pub record Said (fs : List (Fact ℕ)) (k : ℕ) (s : List ℕ) (count : ℕ) (t : List ℕ) : Type 0 where
  pub counted : count ≡ k + length fs
  pub bytes : count ≤ most_facts → take (6 + 4 * count) t ≡ take (6 + 4 * k) s ++ low_bytes fs

-- the bytes of one fact, put as the i-th where there is room
pub record PutFact (bytes : List ℕ) (i : ℕ) (s : List ℕ) (count : ℕ) (t : List ℕ) : Type 0 where
  pub counted : count ≡ i + 1
  pub put : i < most_facts → take (6 + 4 * (i + 1)) t ≡ take (6 + 4 * i) s ++ bytes

-- the fact that leads to a term whose joint is j, from a joint by a link; none leads to the outermost
abbrev pub lead_facts : Option (ℕ × ℕ) → ℕ → List (Fact ℕ)
lead_facts None j = []
lead_facts (Some lead) j = leads lead.0 lead.1 j ∷ []

-- A term may stand at `from`, so many terms around it: the machine is there, and with any such term some text of the language begins.
pub record Awaited (text : List ℕ) (around from : ℕ) : Type 0 where
  pub shallow : around < deepest
  pub reached : run start (take from text) ≡ live around awaiting
  pub viable : (t : Term) (levels : ℕ) → around + levels ≡ deepest → Fits t levels → Begun (take from text ++ term_text t)

-- arguments of a term that so many terms are around may stand at `from`
pub record ArgumentsAwaited (text : List ℕ) (around from : ℕ) : Type 0 where
  pub shallow : suc around < deepest
  pub reached : run start (take from text) ≡ live around (number of_link)
  pub viable : (args : Arguments) (levels : ℕ) → around + suc levels ≡ deepest → ArgumentsFit args levels →
      Begun (take from text ++ text_of (argument_tokens args))

-- `@` and a joint number, or a link number and `=>`, whose tokens are `tokens x`
pub record NumberedRead (text : List ℕ) (n v : ℕ) (tokens : ℕ → List Token) (from : Front) (x : ℕ) (end : Front) : Type 0 where
  pub short : Short x
  pub segment : Segment text n v from (tokens x) end
  pub facts : end.facts ≡ from.facts
  pub sound : Sound text end

abbrev pub joint_tokens : ℕ → List Token
joint_tokens j = sign at_sign ∷ joint j ∷ []

-- behind the joint number stands no digit of it
abbrev pub JointStep : List ℕ → ℕ → Front → Result (ℕ × Front) Stuck → Type 0
JointStep text v from (Ok read) =
    ((n : ℕ) → NumberedRead text n v joint_tokens from read.0 read.1)
    × ((around : ℕ) →
    step (live around (digits of_joint (digits_left read.0))) (here text read.1.at) ≡ behind_number of_joint around (here text read.1.at))
JointStep text v from (Err stuck) = (around : ℕ) → Awaited text around from.at → NoTerm text stuck.0

abbrev pub LinkStep : List ℕ → Front → Result (ℕ × Front) Stuck → Type 0
LinkStep text from (Ok read) = (n v : ℕ) → NumberedRead text n v link_tokens from read.0 read.1
LinkStep text from (Err stuck) = (around : ℕ) → ArgumentsAwaited text around from.at → NoTerm text stuck.0

-- no `:` stands where a kind could, or no digit of the kind number behind it
abbrev pub KindEnded : List ℕ → Written → ℕ → Type 0
KindEnded text unwritten end = here text end ≢ colon
KindEnded text (written s) end =
    (around : ℕ) → step (live around (digits of_kind (digits_left s))) (here text end) ≡ behind_number of_kind around (here text end)

-- `:` and a kind number, or neither
pub record KindRead (text : List ℕ) (n v j : ℕ) (from : Front) (s : List ℕ) (end : Front) (t : List ℕ) : Type 0 where
  pub written : Written
  pub short : KindShort written
  pub segment : Segment text n v from (kind_tokens written) end
  pub said : Said (kind_facts j written) from.facts s end.facts t
  pub ended : KindEnded text written end.at
  pub sound : Sound text end

-- a kind number is missing behind a `:`
pub record KindMissing (text : List ℕ) (from p : ℕ) : Type 0 where
  pub stands : here text from ≡ colon
  pub behind : p ≡ from + 1
  pub missing : is_digit (here text p) ≡ false

abbrev pub KindStep : List ℕ → ℕ → ℕ → Front → List ℕ → Result Front Stuck → List ℕ → Type 0
KindStep text n j from s (Ok end) t = (v : ℕ) → KindRead text n v j from s end t
KindStep text n j from s (Err stuck) t = KindMissing text from.at stuck.0

-- the head of a term, up to its kind
pub record HeadRead (text : List ℕ) (n v : ℕ) (lead : Option (ℕ × ℕ)) (from : Front) (s : List ℕ) (j : ℕ) (end : Front) (t : List ℕ) : Type 0 where
  pub written : Written
  pub joint_short : Short j
  pub kind_short : KindShort written
  pub segment : Segment text n v from (head_tokens j written) end
  pub ended : (around : ℕ) → step (live around (end_of_head j written)) (here text end.at) ≡ behind_head around (here text end.at)
  pub said : Said (lead_facts lead j ++ kind_facts j written) from.facts s end.facts t
  pub sound : Sound text end

abbrev pub HeadStep : List ℕ → ℕ → ℕ → Option (ℕ × ℕ) → Front → List ℕ → Result (ℕ × Front) Stuck → List ℕ → Type 0
HeadStep text n v lead from s (Ok read) t = HeadRead text n v lead from s read.0 read.1 t
HeadStep text n v lead from s (Err stuck) t = (around : ℕ) → Awaited text around from.at → NoTerm text stuck.0

pub record TermRead (text : List ℕ) (n v around : ℕ) (lead : Option (ℕ × ℕ)) (from : Front) (s : List ℕ) (end : Front) (s' : List ℕ) : Type 0 where
  pub t : Term
  pub fits : (levels : ℕ) → around + levels ≡ deepest → Fits t levels
  pub segment : Segment text n v from (term_tokens t) end
  pub ended : step (live around (end_of t)) (here text end.at) ≡ behind_term around (here text end.at)
  pub said : Said (lead_facts lead (joint_of t) ++ term_facts t) from.facts s end.facts s'
  pub sound : Sound text end

-- the arguments of joint j and the bracket that closes them
pub record ArgumentsRead (text : List ℕ) (n v around j : ℕ) (from : Front) (s : List ℕ) (end : Front) (s' : List ℕ) : Type 0 where
  pub args : Arguments
  pub fits : (levels : ℕ) → around + suc levels ≡ deepest → ArgumentsFit args levels
  pub segment : Segment text n v from (argument_tokens args ++ sign closing ∷ []) end
  pub said : Said (argument_facts args j) from.facts s end.facts s'
  pub sound : Sound text end

abbrev pub TermStep : List ℕ → ℕ → ℕ → ℕ → Option (ℕ × ℕ) → Front → List ℕ → Result Front Stuck → List ℕ → Type 0
TermStep text n v around lead from s (Ok end) s' = TermRead text n v around lead from s end s'
TermStep text n v around lead from s (Err stuck) s' = NoTerm text stuck.0

abbrev pub ArgumentsStep : List ℕ → ℕ → ℕ → ℕ → ℕ → Front → List ℕ → Result Front Stuck → List ℕ → Type 0
ArgumentsStep text n v around j from s (Ok end) s' = ArgumentsRead text n v around j from s end s'
ArgumentsStep text n v around j from s (Err stuck) s' = NoTerm text stuck.0

-- the whole text: a term, its facts from the first on, and the first of its numbers out of range
pub record WholeRead (text : List ℕ) (n v : ℕ) (s : List ℕ) (end : Front) (s' : List ℕ) : Type 0 where
  pub t : Term
  pub reading : Reading text t
  pub range : wrong_reply end.wrong ≡ range_reply n v 0 (term_tokens t)
  pub said : Said (term_facts t) 0 s end.facts s'

abbrev pub WholeStep : List ℕ → ℕ → ℕ → List ℕ → Result Front Stuck → List ℕ → Type 0
WholeStep text n v s (Ok end) s' = WholeRead text n v s end s'
WholeStep text n v s (Err stuck) s' = NoTerm text stuck.0

-- the facts of a term stand in a packet behind its first six bytes
pub record Holding (t : Term) (count : ℕ) (packet : List ℕ) : Type 0 where
  pub counted : count ≡ length (term_facts t)
  pub bytes : count ≤ most_facts → take (4 * count) (drop 6 packet) ≡ low_bytes (term_facts t)

-- what is answered of a term, given where its first number out of range stands, and its facts
pub record PacketAnswer (end : Front) (v : ℕ) (packet out : List ℕ) (reply : Reply) (after : List ℕ) : Type 0 where
  pub told : (n : ℕ) (t : Term) → n ≤ 256 → v ≤ 256 → wrong_reply end.wrong ≡ range_reply n v 0 (term_tokens t) → Holding t end.facts packet →
      (reply ≡ term_reply n v t out) × (after ≡ term_output n v t out)

-- what is answered of a text
pub data TextAnswer (text : List ℕ) (n v : ℕ) (out : List ℕ) (reply : Reply) (after : List ℕ) : Type 0 where
  no_term : (p : ℕ) → NoTerm text p → reply ≡ refusal no_term_cause p → after ≡ out → TextAnswer text n v out reply after
  term : (t : Term) → Reading text t → reply ≡ term_reply n v t out → after ≡ term_output n v t out → TextAnswer text n v out reply after
