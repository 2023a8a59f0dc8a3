-- What the parts of writing a term do: the text that each puts, the joints that a visit marks, and what it found where there is no tree.
-- No exported contract rests on these.
-- Assumes nothing.
use Rattle.std.specs.Prelude.{◌≡◌, ◌≢◌, ◌⊎◌, Bool, true, false, cond, List, [], ◌∷◌, ◌++◌, ℕ, suc, ◌+◌, ◌*◌, ◌<◌, ◌≤◌, eqb, length, take, get_or, Result, MatchResult}
use Rattle.decimals.specs.Decimal.{decimal}
use Rattle.meaning.specs.Form.{Form, unknown}
use Rattle.joints.specs.Layout.{joints_of, block_form}
use Rattle.terms.specs.Term.{Term, term_text, at_sign, colon, opening, closing, comma, equals, greater}
use Rattle.writing.specs.Putting.{Put}
use Rattle.term_writing.specs.Tree.{Walk, TreeFrom, link_terms, term_from}
use Rattle.term_writing.specs.WriteTerm.{written_text}

-- room for any text: 12 bytes for each of 64 joints
abbrev pub text_room : ℕ
text_room = 768

-- of these, those of the sign and the link before a term
abbrev pub link_room : ℕ
link_room = 5

abbrev pub kind_text : ℕ → List ℕ
kind_text s = cond (eqb s 1) [] (colon ∷ decimal s)

abbrev pub head_text : ℕ → ℕ → List ℕ
head_text j s = at_sign ∷ (decimal j ++ kind_text s)

abbrev pub link_text : ℕ → ℕ → List ℕ
link_text sign l = sign ∷ (decimal l ++ (equals ∷ greater ∷ []))

-- arguments behind another; and all of them, without the bracket that closes
unfoldable pub further_text : List (ℕ × Term) → List ℕ
further_text [] = []
further_text (next ∷ others) = link_text comma next.0 ++ (term_text next.1 ++ further_text others)

unfoldable pub arguments_text : List (ℕ × Term) → List ℕ
arguments_text [] = []
arguments_text (first ∷ others) = link_text opening first.0 ++ (term_text first.1 ++ further_text others)

-- the sign before an argument, and the bracket that closes, where arguments begin at `from` and the text so far ends at `at`
abbrev pub sign_before : ℕ → ℕ → ℕ
sign_before from at = cond (eqb at from) opening comma

abbrev pub closing_text : ℕ → ℕ → List ℕ
closing_text from at = cond (eqb at from) [] (closing ∷ [])

-- the argument for a link that leads to c, if it is known
abbrev pub argument_text : ℕ → ℕ → ℕ → Term → List ℕ
argument_text sign l c t = cond (eqb c unknown) [] (link_text sign l ++ term_text t)

-- which joints are marked
abbrev pub Marked : List Bool → ℕ → Type 0
Marked seen m = get_or seen m false ≡ true

abbrev pub Unmarked : List Bool → ℕ → Type 0
Unmarked seen m = get_or seen m false ≡ false

-- how many are not marked
unfoldable pub unmarked : List Bool → ℕ
unmarked [] = 0
unmarked (x ∷ xs) = cond x (unmarked xs) (suc (unmarked xs))

-- the walks from j that begin with a link below k; and those from where a link leads, if it is known
abbrev pub Through : Form → ℕ → ℕ → List ℕ → ℕ → Type 0
Through S j k [] m = ⊥
Through S j k (l ∷ ls) m = (l < k) × Walk S j (l ∷ ls) m

abbrev pub Onward : Form → ℕ → List ℕ → ℕ → Type 0
Onward S c w m = (c ≢ unknown) × Walk S c w m

-- a visit of all the joints where some walks lead: no two of these lead to one joint, each is shorter than so many levels, and the joints
-- that are marked afterwards are those of before and, apart from them, those where the walks lead
pub record Visited (Leads : List ℕ → ℕ → Type 0) (levels : ℕ) (seen after : List Bool) : Type 0 where
  pub kept : (m : ℕ) → Marked seen m → Marked after m
  pub marks : (w : List ℕ) (m : ℕ) → Leads w m → Marked after m
  pub new : (m : ℕ) → Marked after m → Marked seen m ⊎ ((w : List ℕ) × Leads w m)
  pub once : (w u : List ℕ) (m : ℕ) → Leads w m → Leads u m → w ≡ u
  pub short : (w : List ℕ) (m : ℕ) → Leads w m → length w < levels
  pub fresh : (w : List ℕ) (m : ℕ) → Leads w m → Marked seen m → ⊥

-- why there is no such visit
pub data Failed (Leads : List ℕ → ℕ → Type 0) (levels : ℕ) (seen : List Bool) : Type 0 where
  too_deep : (w : List ℕ) (m : ℕ) → Leads w m → levels ≤ length w → Failed Leads levels seen
  twice : (w u : List ℕ) (m : ℕ) → w ≢ u → Leads w m → Leads u m → Failed Leads levels seen
  met : (w : List ℕ) (m : ℕ) → Leads w m → Marked seen m → Failed Leads levels seen

-- a visit that put its text. For each joint it marked 12 bytes are set apart, of which it left so many
pub record Told (text : List ℕ) (Leads : List ℕ → ℕ → Type 0) (levels spare at : ℕ) (to told : List ℕ) (seen after : List Bool) (end : ℕ) : Type 0 where
  pub put : Put text at to told end
  pub visited : Visited Leads levels seen after
  pub room : end + 12 * unmarked after + spare ≤ at + 12 * unmarked seen

-- what a visit found of joint j, with so many levels below its own; of its arguments; and of the one for a link that leads to c. It tells
-- the place behind the text that it put, or that there is no such visit
abbrev pub TermFound : {E : Type 0} → Form → ℕ → ℕ → ℕ → List ℕ → List ℕ → List Bool → List Bool → Result ℕ E → Type 0
TermFound S j below at to told seen after r =
    MatchResult r (λ end. Told (term_text (term_from S (suc below) j)) (Walk S j) (suc below) link_room at to told seen after end)
    (λ _. Failed (Walk S j) (suc below) seen)

abbrev pub ArgumentsFound : {E : Type 0} → Form → ℕ → ℕ → ℕ → List ℕ → List ℕ → List Bool → List Bool → Result ℕ E → Type 0
ArgumentsFound S j below from to told seen after r =
    MatchResult r
    (λ end. Told (arguments_text (link_terms S (λ c. term_from S below c) j 0 16)) (Through S j 16) (suc below) 0 from to told seen after end)
    (λ _. Failed (Through S j 16) (suc below) seen)

abbrev pub ArgumentFound : {E : Type 0} → Form → ℕ → ℕ → ℕ → ℕ → ℕ → List ℕ → List ℕ → List Bool → List Bool → Result ℕ E → Type 0
ArgumentFound S l c below from at to told seen after r =
    MatchResult r
    (λ end. Told (argument_text (sign_before from at) l c (term_from S below c)) (Onward S c) below 0 at to told seen after end)
    (λ _. Failed (Onward S c) below seen)

-- the numbers of v joints: links lead to joints, and kinds have at most two digits
pub record Sound (v : ℕ) (S : Form) : Type 0 where
  pub few : v ≤ 64
  pub kinds : (j : ℕ) → S.kind j < 64
  pub links : (j l : ℕ) → j < v → l < 16 → S.link j l ≢ unknown → S.link j l < v

-- what every visit asks of the session, of the array for the text and of the marks
pub record Ready (session to : List ℕ) (seen : List Bool) : Type 0 where
  pub sound : Sound (joints_of session) (block_form session)
  pub to_size : length to ≡ text_room
  pub seen_size : length seen ≡ 64

-- a joint that is marked, or has kind 1 and no known link; and one that is not marked and says something
pub data Accounted (S : Form) (seen : List Bool) (j : ℕ) : Type 0 where
  marked : Marked seen j → Accounted S seen j
  silent : S.kind j ≡ 1 → ((l : ℕ) → l < 16 → S.link j l ≡ unknown) → Accounted S seen j

pub record Missed (S : Form) (seen : List Bool) (j : ℕ) : Type 0 where
  pub unmet : Unmarked seen j
  pub says : (S.kind j ≢ 1) ⊎ ((l : ℕ) × ((l < 16) × (S.link j l ≢ unknown)))

-- what was found of all that is known: the text in front of its array, or that it is no tree from the root
abbrev pub TreeFound : {E : Type 0} → List ℕ → ℕ → List ℕ → Result ℕ E → Type 0
TreeFound b root text r =
    MatchResult r (λ end. TreeFrom (joints_of b) (block_form b) root × (end ≤ length text) × (take end text ≡ written_text b root))
    (λ _. TreeFrom (joints_of b) (block_form b) root → ⊥)
