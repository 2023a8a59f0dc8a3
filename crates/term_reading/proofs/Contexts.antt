-- What may stand where: from a place where a term or arguments may stand to the places behind it, and at each the bytes with which no text
-- goes on.
-- Assumes nothing.
use mathlib.Core.Path.{◌≡◌, refl, sym, ap, ◌∙◌, subst}
use mathlib.Core.Logic.{◌≢◌}
use mathlib.Core.Bool.{false, false≢true}
use mathlib.Core.List.{List, [], ◌∷◌, ◌++◌, append-nil, append_assoc}
use Prim.Native.Nat.{ℕ, suc, ◌+◌, ◌-◌, ◌<◌, ◌≤◌}
use native.Mathlib.Omega.{arith}
use lib.ListN.{length, take}
use borrow.Author.Tests.{ne_eqb}
use Rattle.decimals.specs.Decimal.{decimal}
use Rattle.terms.specs.Term.{Written, Term, Arguments, Token, at_sign, colon, opening, closing, comma, equals, greater}
use Rattle.terms.specs.Term.{kind_tokens, head_tokens, link_tokens, term_tokens, argument_tokens, text_of, term_text}
use Rattle.terms.specs.Term.Written.{unwritten, written}
use Rattle.terms.specs.Term.Term.{bare, bracketed}
use Rattle.terms.specs.Term.Arguments.{one, more}
use Rattle.terms.specs.Language.{Short, KindShort, Fits, ArgumentsFit, deepest, Begun, NoTerm}
use Rattle.terms.specs.Machine.{Role, State, here, end, is_digit, step, run, start, first_digit, behind_number, behind_head, behind_term, digits_left}
use Rattle.terms.specs.Machine.{end_of, end_of_head}
use Rattle.terms.specs.Machine.Role.{of_joint, of_kind, of_link}
use Rattle.terms.specs.Machine.Phase.{awaiting, number, digits, arrow}
use Rattle.terms.specs.Machine.State.{live, dead}
use Rattle.terms.proofs.Running.{text_append, run_append, run_number, run_head, run_link, run_term, bracketed_text, more_text, goes_bracket}
use Rattle.terms.proofs.Language.{begun_front, term_begun, stuck}
use Rattle.term_reading.specs.declared.Front.{Front}
use Rattle.term_reading.specs.Reading.{NumberRead, Segment, joint_tokens, Awaited, ArgumentsAwaited}
use Rattle.term_reading.proofs.Segments.{within, with_byte}

-- the bytes with which nothing goes on
dies_awaiting : (around b : ℕ) → b ≢ at_sign → step (live around awaiting) b ≡ dead
unfolding step
dies_awaiting around b h = rw (ne_eqb b at_sign h)

dies_number : (role : Role) (around b : ℕ) → is_digit b ≡ false → step (live around (number role)) b ≡ dead
unfolding step first_digit
dies_number role around b h = rw (ne_eqb b 48 (λ e. false≢true (sym h ∙ ap is_digit e)), h)

dies_link : (around b : ℕ) → b ≢ equals → behind_number of_link around b ≡ dead
unfolding behind_number
dies_link around b h = rw (ne_eqb b equals h)

dies_arrow : (around b : ℕ) → b ≢ greater → step (live around arrow) b ≡ dead
unfolding step
dies_arrow around b h = rw (ne_eqb b greater h)

dies_behind : (around b : ℕ) → b ≢ comma → b ≢ closing → behind_term (suc around) b ≡ dead
unfolding behind_term
dies_behind around b h g = rw (ne_eqb b comma h, ne_eqb b closing g)

dies_outside : (b : ℕ) → b ≢ end → behind_term 0 b ≡ dead
unfolding behind_term
dies_outside b h = rw (ne_eqb b end h)

-- and the bytes with which something does
goes_joint : (around : ℕ) → step (live around awaiting) at_sign ≡ live around (number of_joint)
unfolding step
goes_joint around = refl

goes_kind : (around : ℕ) → behind_number of_joint around colon ≡ live around (number of_kind)
unfolding behind_number
goes_kind around = refl

no_deeper : behind_head 15 opening ≡ dead
unfolding behind_head
no_deeper = refl

goes_arrow : (around : ℕ) → behind_number of_link around equals ≡ live around arrow
unfolding behind_number
goes_arrow around = refl

goes_comma : (around : ℕ) → behind_term (suc around) comma ≡ live around (number of_link)
unfolding behind_term
goes_comma around = refl

one_step : (s : State) (b : ℕ) → run s (b ∷ []) ≡ step s b
unfolding run
one_step s b = refl

-- x stands between two places
pub record Between (text : List ℕ) (from p : ℕ) (x : List ℕ) : Type 0 where
  pub is : take p text ≡ take from text ++ x

module _ {text : List ℕ} {from p : ℕ} {x : List ℕ} (between : Between text from p x) where
  machine_at : {s : State} → run start (take from text) ≡ s → run start (take p text) ≡ run s x
  machine_at e = ap (run start) between.is ∙ run_append start (take from text) x ∙ ap (λ (t : State). run t x) e

  begun_past : (z y r : List ℕ) → z ≡ x ++ (y ++ r) → Begun (take from text ++ z) → Begun (take p text ++ y)
  begun_past z y r e b = begun_front (take p text ++ y) r (subst Begun same b)
    where
      same : take from text ++ z ≡ (take p text ++ y) ++ r
      same =
          ap (λ (l : List ℕ). take from text ++ l) e ∙ sym (append_assoc (take from text) x (y ++ r))
          ∙ ap (λ (l : List ℕ). l ++ (y ++ r)) (sym between.is) ∙ sym (append_assoc (take p text) y r)

  begun_to : (z r : List ℕ) → z ≡ x ++ r → Begun (take from text ++ z) → Begun (take p text)
  begun_to z r e b = subst Begun (append-nil (take p text)) (begun_past z [] r e b)

  -- a byte more
  further : (b : ℕ) → here text p ≡ b → b < 256 → Between text from (p + 1) (x ++ b ∷ [])
  further b h small =
      record { is = with_byte text p b h small ∙ ap (λ (l : List ℕ). l ++ b ∷ []) between.is ∙ append_assoc (take from text) x (b ∷ []) }

  -- y stands behind x
  past : {q : ℕ} {y : List ℕ} → Between text p q y → Between text from q (x ++ y)
  past {y = y} next = record { is = next.is ∙ ap (λ (l : List ℕ). l ++ y) between.is ∙ append_assoc (take from text) x y }

byte_between : (text : List ℕ) (p b : ℕ) → here text p ≡ b → b < 256 → Between text p (p + 1) (b ∷ [])
byte_between text p b h small = record { is = with_byte text p b h small }

read_between : {text : List ℕ} {from x p : ℕ} → NumberRead text from x p → Between text from p (decimal x)
read_between r = record { is = r.spelled }

pub spans : {text : List ℕ} {n v : ℕ} {from last : Front} {tokens : List Token} → Segment text n v from tokens last →
    Between text from.at last.at (text_of tokens)
spans s = record { is = s.spelled }

stuck_in : (text : List ℕ) (p : ℕ) {s : State} → p ≤ length text → Begun (take p text) → run start (take p text) ≡ s →
    step s (here text p) ≡ dead → NoTerm text p
stuck_in text p inside b e d = stuck text p inside b (ap (λ (t : State). step t (here text p)) e ∙ d)

-- the texts of terms and arguments, cut behind a sign
bracket_text : (j : ℕ) (s : Written) (args : Arguments) →
    term_text (bracketed j s args) ≡ (text_of (head_tokens j s) ++ opening ∷ []) ++ (text_of (argument_tokens args) ++ closing ∷ [])
bracket_text j s args =
    bracketed_text j s args
    ∙ sym (append_assoc (text_of (head_tokens j s)) (opening ∷ []) (text_of (argument_tokens args) ++ closing ∷ []))

one_text : (l : ℕ) (t : Term) → text_of (argument_tokens (one l t)) ≡ decimal l ++ equals ∷ greater ∷ term_text t
unfolding argument_tokens text_of
one_text l t = refl

comma_text : (l : ℕ) (t : Term) (args : Arguments) →
    text_of (argument_tokens (more l t args)) ≡ ((text_of (link_tokens l) ++ term_text t) ++ comma ∷ []) ++ (text_of (argument_tokens args) ++ [])
comma_text l t args =
    sym (append-nil (text_of (argument_tokens (more l t args))))
    ∙ more_text l t args []
    ∙ ap (λ (y : List ℕ). y ++ comma ∷ (text_of (argument_tokens args) ++ [])) (text_append (link_tokens l) (term_tokens t))
    ∙ sym (append_assoc (text_of (link_tokens l) ++ term_text t) (comma ∷ []) (text_of (argument_tokens args) ++ []))

-- where the outermost term stands
pub outermost : (text : List ℕ) → Awaited text 0 0
unfolding run
outermost text =
    record {
      shallow = omega arith;
      reached = refl;
      viable = λ t levels e f. term_begun t (subst (λ (k : ℕ). Fits t k) (let z : levels ≡ deepest = omega (arith, e) in z) f);
    }

pub nothing_behind : (text : List ℕ) (t : Term) (p : ℕ) → Fits t deepest → take p text ≡ term_text t → p < length text → here text p ≢ end →
    step (live 0 (end_of t)) (here text p) ≡ behind_term 0 (here text p) → NoTerm text p
unfolding run
nothing_behind text t p f e inside h ended =
    stuck_in text p (omega arith) (subst Begun (sym e) (term_begun t f))
    (ap (run start) e ∙ run_term t 0 16 (omega arith) f)
    (ended ∙ dies_outside (here text p) h)

module _ (text : List ℕ) (around from : ℕ) (w : Awaited text around from) where
  -- with any term that fits where one level is left
  some_term : (t : Term) → ((k : ℕ) → Fits t (suc k)) → Begun (take from text ++ term_text t)
  some_term t f = w.viable t (suc (15 - around)) (omega (arith, w.shallow)) (f (15 - around))

  pub stuck_at_term : from ≤ length text → here text from ≢ at_sign → NoTerm text from
  stuck_at_term inside h =
      stuck_in text from inside
      (begun_front (take from text) (term_text (bare 0 unwritten)) (some_term (bare 0 unwritten) (λ _. (omega arith, tt))))
      w.reached (dies_awaiting around (here text from) h)

  pub stuck_at_joint : here text from ≡ at_sign → is_digit (here text (from + 1)) ≡ false → NoTerm text (from + 1)
  unfolding term_tokens text_of
  stuck_at_joint h d =
      let between = byte_between text from at_sign h (omega arith) in
      stuck_in text (from + 1) (omega (arith, within text from at_sign h (omega arith)))
      (begun_to between (term_text (bare 0 unwritten)) (decimal 0 ++ []) refl (some_term (bare 0 unwritten) (λ _. (omega arith, tt))))
      (machine_at between w.reached ∙ one_step (live around awaiting) at_sign ∙ goes_joint around)
      (dies_number of_joint around (here text (from + 1)) d)

  -- behind the joint number
  module _ (j p : ℕ) (short : Short j) (between : Between text from p (text_of (joint_tokens j))) where
    pub stuck_at_kind : here text p ≡ colon →
        step (live around (digits of_joint (digits_left j))) (here text p) ≡ behind_number of_joint around (here text p) →
        is_digit (here text (p + 1)) ≡ false → NoTerm text (p + 1)
    unfolding term_tokens text_of
    stuck_at_kind h ended d =
        let more_between = further between colon h (omega arith) in
        stuck_in text (p + 1) (omega (arith, within text p colon h (omega arith)))
        (begun_to more_between (term_text (bare j (written 0))) (decimal 0 ++ []) spelled
        (some_term (bare j (written 0)) (λ _. (short, omega arith))))
        (machine_at more_between w.reached ∙ run_append (live around awaiting) (text_of (joint_tokens j)) (colon ∷ [])
        ∙ ap (λ (s : State). run s (colon ∷ [])) (run_head j unwritten around short tt) ∙ one_step (live around (digits of_joint (digits_left j))) colon
        ∙ ap (step (live around (digits of_joint (digits_left j)))) (sym h) ∙ ended ∙ ap (behind_number of_joint around) h ∙ goes_kind around)
        (dies_number of_kind around (here text (p + 1)) d)
      where
        spelled : term_text (bare j (written 0)) ≡ (text_of (joint_tokens j) ++ colon ∷ []) ++ (decimal 0 ++ [])
        spelled = text_append (joint_tokens j) (kind_tokens (written 0)) ∙ sym (append_assoc (text_of (joint_tokens j)) (colon ∷ []) (decimal 0 ++ []))

  -- behind the head, where a bracket opens
  module _
      (j : ℕ) (s : Written) (p : ℕ) (short : Short j) (kind_short : KindShort s) (between : Between text from p (text_of (head_tokens j s)))
      (h : here text p ≡ opening) (ended : step (live around (end_of_head j s)) (here text p) ≡ behind_head around (here text p))
    where
      at_head : run start (take p text) ≡ live around (end_of_head j s)
      at_head = machine_at between w.reached ∙ run_head j s around short kind_short

      pub stuck_at_depth : around ≡ 15 → NoTerm text p
      unfolding term_tokens
      stuck_at_depth e =
          stuck_in text p (omega (arith, within text p opening h (omega arith)))
          (begun_to between (term_text (bare j s)) [] (sym (append-nil (text_of (head_tokens j s)))) (some_term (bare j s) (λ _. (short, kind_short))))
          at_head (ended ∙ ap (behind_head around) h ∙ ap (λ (k : ℕ). behind_head k opening) e ∙ no_deeper)

      pub arguments_awaited : around ≢ 15 → ArgumentsAwaited text around (p + 1)
      arguments_awaited e =
          let more_between = further between opening h (omega arith) in
          record {
            shallow = omega (arith, w.shallow, e);
            reached =
                machine_at (byte_between text p opening h (omega arith)) at_head ∙ one_step (live around (end_of_head j s)) opening
                ∙ ap (step (live around (end_of_head j s))) (sym h) ∙ ended ∙ ap (behind_head around) h
                ∙ goes_bracket around (omega (arith, w.shallow, e));
            viable =
                λ args levels l f.
                begun_past more_between (term_text (bracketed j s args)) (text_of (argument_tokens args)) (closing ∷ []) (bracket_text j s args)
                (w.viable (bracketed j s args) (suc levels) l (short, kind_short, f));
          }

module _ (text : List ℕ) (around from : ℕ) (w : ArgumentsAwaited text around from) where
  some_arguments : (args : Arguments) → ((k : ℕ) → ArgumentsFit args (suc k)) → Begun (take from text ++ text_of (argument_tokens args))
  some_arguments args f = w.viable args (suc (14 - around)) (omega (arith, w.shallow)) (f (14 - around))

  pub stuck_at_link : from ≤ length text → is_digit (here text from) ≡ false → NoTerm text from
  stuck_at_link inside d =
      stuck_in text from inside
      (begun_front (take from text) (text_of (argument_tokens (one 0 (bare 0 unwritten))))
      (some_arguments (one 0 (bare 0 unwritten)) (λ _. (omega arith, (omega arith, tt)))))
      w.reached (dies_number of_link around (here text from) d)

  -- behind a link number
  module _ (l p : ℕ) (r : NumberRead text from l p) where
    link_begun : Begun (take from text ++ text_of (argument_tokens (one l (bare 0 unwritten))))
    link_begun = some_arguments (one l (bare 0 unwritten)) (λ _. (r.short, (omega arith, tt)))

    at_link : run start (take p text) ≡ live around (digits of_link (digits_left l))
    at_link = machine_at (read_between r) w.reached ∙ run_number of_link around l r.short

    pub stuck_at_equals : here text p ≢ equals → NoTerm text p
    stuck_at_equals h =
        stuck_in text p r.inside
        (begun_to (read_between r) (text_of (argument_tokens (one l (bare 0 unwritten)))) (equals ∷ greater ∷ term_text (bare 0 unwritten))
        (one_text l (bare 0 unwritten)) link_begun)
        at_link (r.ended of_link around ∙ dies_link around (here text p) h)

    pub stuck_at_greater : here text p ≡ equals → here text (p + 1) ≢ greater → NoTerm text (p + 1)
    stuck_at_greater e h =
        let more_between = further (read_between r) equals e (omega arith) in
        stuck_in text (p + 1) (omega (arith, within text p equals e (omega arith)))
        (begun_to more_between (text_of (argument_tokens (one l (bare 0 unwritten)))) (greater ∷ term_text (bare 0 unwritten))
        (one_text l (bare 0 unwritten) ∙ sym (append_assoc (decimal l) (equals ∷ []) (greater ∷ term_text (bare 0 unwritten)))) link_begun)
        (machine_at (byte_between text p equals e (omega arith)) at_link ∙ one_step (live around (digits of_link (digits_left l))) equals
        ∙ ap (step (live around (digits of_link (digits_left l)))) (sym e) ∙ r.ended of_link around ∙ ap (behind_number of_link around) e
        ∙ goes_arrow around)
        (dies_arrow around (here text (p + 1)) h)

  -- behind `=>`
  module _ (l p : ℕ) (short : Short l) (between : Between text from p (text_of (link_tokens l))) where
    pub inner_awaited : Awaited text (suc around) p
    unfolding argument_tokens
    inner_awaited =
        record {
          shallow = w.shallow;
          reached = machine_at between w.reached ∙ run_link l around short;
          viable =
              λ t levels e f.
              begun_past between (text_of (argument_tokens (one l t))) (term_text t) []
              (text_append (link_tokens l) (term_tokens t) ∙ ap (λ (y : List ℕ). text_of (link_tokens l) ++ y) (sym (append-nil (term_text t))))
              (w.viable (one l t) levels (let z : around + suc levels ≡ deepest = omega (arith, e) in z) (short, f));
        }

    -- behind an argument
    module _
        (t : Term) (q : ℕ) (inside : q ≤ length text) (fits : (levels : ℕ) → suc around + levels ≡ deepest → Fits t levels)
        (to_end : Between text p q (term_text t))
        (ended : step (live (suc around) (end_of t)) (here text q) ≡ behind_term (suc around) (here text q))
      where
        fits_here : Fits t (15 - around)
        fits_here = fits (15 - around) (omega (arith, w.shallow))

        at_end : run start (take q text) ≡ live (suc around) (end_of t)
        at_end = machine_at to_end inner_awaited.reached ∙ run_term t (suc around) (15 - around) (omega (arith, w.shallow)) fits_here

        pub stuck_behind_argument : here text q ≢ comma → here text q ≢ closing → NoTerm text q
        stuck_behind_argument h g =
            stuck_in text q inside
            (subst Begun (sym to_end.is) (inner_awaited.viable t (15 - around) (omega (arith, w.shallow)) fits_here))
            at_end (ended ∙ dies_behind around (here text q) h g)

        pub next_awaited : here text q ≡ comma → ArgumentsAwaited text around (q + 1)
        unfolding argument_tokens
        next_awaited h =
            record {
              shallow = w.shallow;
              reached =
                  machine_at (byte_between text q comma h (omega arith)) at_end ∙ one_step (live (suc around) (end_of t)) comma
                  ∙ ap (step (live (suc around) (end_of t))) (sym h) ∙ ended ∙ ap (behind_term (suc around)) h ∙ goes_comma around;
              viable =
                  λ args k e f.
                  begun_past whole (text_of (argument_tokens (more l t args))) (text_of (argument_tokens args)) [] (comma_text l t args)
                  (w.viable (more l t args) k e (short, fits k (let z : suc around + k ≡ deepest = omega (arith, e) in z), f));
            }
          where
            whole : Between text from (q + 1) ((text_of (link_tokens l) ++ term_text t) ++ comma ∷ [])
            whole = further (past between to_end) comma h (omega arith)
