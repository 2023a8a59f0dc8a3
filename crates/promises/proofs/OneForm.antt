-- One result for the inner functions whose contracts are no equations: the test of two runs, a block made of lent bytes, the unpacked form, and
-- what becomes of a form with a fact. Both forms are fixed at every node, and with them the bytes of the code's arrays.
-- Assumes nothing.
use mathlib.Core.Path.{◌≡◌, refl, sym, ap, ◌∙◌}
use mathlib.Core.Logic.{by_cases}
use mathlib.Core.Bool.{Bool, true, false, true≢false, false≢true}
use mathlib.Core.List.{List, [], ◌∷◌, ◌++◌}
use Prim.Native.Nat.{ℕ, ◌+◌, ◌*◌, ◌/◌, ◌%◌, ◌<◌, ◌≤◌}
use native.Mathlib.Omega.{arith}
use native.Mathlib.Decide.{dec_lt}
use native.Mathlib.Nat.{div-add-mod', mod-lt}
use lib.ListN.{length, take, drop, take-append-drop}
use Rattle.std.specs.Prelude.{Result, Ok, Err, MatchResult}
use Rattle.replies.specs.Replies.{Reply, refuses}
use Rattle.replies.specs.declared.Refusal.{Refusal}
use Rattle.blocks.specs.WellFormed.{block_reply}
use lib.Seq.{ext_get_or, take-take}
use Rattle.kinds.specs.Kinds.{meet_at}
use Rattle.kinds.specs.Laws.{Lawful}
use Rattle.meaning.specs.Picture.{Fact}
use Rattle.meaning.specs.Form.{Form}
use Rattle.meaning.specs.Solving.{Taken, Refuted, InRange}
use Rattle.meaning.specs.Asking.{Extends}
use Rattle.meaning.proofs.SameForm.{SameForm}
use Rattle.meaning.proofs.Unique.{taken_one}
use Rattle.meaning.proofs.Takes.{taken_not_refuted, refuted_more}
use Rattle.writing.specs.Putting.{Put}
use Rattle.solver.specs.declared.Solved.{Solved}
use Rattle.solver.specs.Unpacked.{form_of, Ready, Took, Stopped, Folded}
use Rattle.solver.proofs.OneFact.{some_node}

-- what `runs::same` allows
pub same_one :
    {a b : List ℕ} (r s : Bool) → (r ≡ true → a ≡ b) × (r ≡ false → a ≡ b → ⊥) → (s ≡ true → a ≡ b) × (s ≡ false → a ≡ b → ⊥) → r ≡ s
same_one true true x y = refl
same_one true false x y = absurd (y.1 refl (x.0 refl))
same_one false true x y = absurd (x.1 refl (y.0 refl))
same_one false false x y = refl

-- what the making of a `Block` of the bytes b allows
abbrev pub BlockOf : List ℕ → Result (List ℕ) Refusal → Type 0
BlockOf b r = MatchResult r (λ block. (block ≡ b) × (block_reply b ≡ Ok 0)) (λ refusal. block_reply b ≡ Err refusal)

abbrev refusal_in : Refusal → Reply → Refusal
refusal_in other (Ok t) = other
refusal_in other (Err r) = r

pub block_one : (b : List ℕ) (r s : Result (List ℕ) Refusal) → BlockOf b r → BlockOf b s → r ≡ s
block_one b (Ok x) (Ok y) p q = ap (λ (block : List ℕ). Ok block) (p.0 ∙ sym q.0)
block_one b (Ok x) (Err e) p q = absurd (false≢true (ap refuses (sym p.1 ∙ q)))
block_one b (Err d) (Ok y) p q = absurd (true≢false (ap refuses (sym p ∙ q.1)))
block_one b (Err d) (Err e) p q = ap (λ (r : Refusal). Err r) (ap (refusal_in d) (sym p ∙ q))

-- Two unpacked forms that are one form are the same bytes, in the nodes and in the rows. The sizes are those of the arrays' type and of the
-- rows lent.
pub arrays_one :
    (s t : Solved) (rows rows' : List ℕ) → length s.class ≡ length t.class → length s.kind ≡ length t.kind → length rows ≡ length rows'
    → SameForm (form_of s rows) (form_of t rows') → (s.class ≡ t.class) × (s.kind ≡ t.kind) × (rows ≡ rows')
arrays_one s t rows rows' c k l e = (
  ext_get_or 0 s.class t.class c (λ j _. e.class j),
  ext_get_or 0 s.kind t.kind k (λ j _. e.kind j),
  ext_get_or 0 rows rows' l
      (λ p _. let q : p / 16 * 16 + p % 16 ≡ p = div-add-mod' p 16 in rw q at (e.link (p / 16) (p % 16) (mod-lt p (omega arith)))),
)

-- what `unpacking::unpack` allows
pub unpack_one : {v k : ℕ} {S E F : Form} → Extends v k S E → Extends v k S F → SameForm E F
unpack_one {v} {k} {S} {E} {F} x y =
    record {
      class = λ j.
          by_node j (λ h. x.class_old j h ∙ sym (y.class_old j h)) (λ a b. x.class_new j a b ∙ sym (y.class_new j a b))
          (λ h. x.class_rest j h ∙ sym (y.class_rest j h));
      kind = λ j.
          by_node j (λ h. x.kind_old j h ∙ sym (y.kind_old j h)) (λ a b. x.kind_new j a b ∙ sym (y.kind_new j a b))
          (λ h. x.kind_rest j h ∙ sym (y.kind_rest j h));
      link = λ j l i.
          by_node j (λ h. x.link_old j l h i ∙ sym (y.link_old j l h i)) (λ a b. x.link_new j l a b i ∙ sym (y.link_new j l a b i))
          (λ h. x.link_rest j l h i ∙ sym (y.link_rest j l h i));
    }
  where
    by_node : {C : Type 0} (j : ℕ) → (j < v → C) → (v ≤ j → j < v + k → C) → (v + k ≤ j → C) → C
    by_node j f g h = by_cases (dec_lt j v) f (λ d. by_cases (dec_lt j (v + k)) (λ b. g (omega arith) b) (λ c. h (omega arith)))

-- what `Solved::with_fact` allows where the fact is taken
pub with_fact_one :
    {n v : ℕ} {meet : ℕ → ℕ → ℕ} {S T U : Form} {fs : List (Fact ℕ)} → Lawful n meet → 0 < v → Taken n meet v S fs T → Taken n meet v S fs U
    → SameForm T U
with_fact_one L pos t u = taken_one L pos t u

-- one outcome: both are values that agree, or both are errors that do
abbrev pub OneOutcome : {A B E F : Type 0} → Result A E → Result B F → (A → B → Type 0) → (E → F → Type 0) → Type 0
OneOutcome (Ok x) (Ok y) P Q = P x y
OneOutcome (Ok x) (Err e) P Q = ⊥
OneOutcome (Err d) (Ok y) P Q = ⊥
OneOutcome (Err d) (Err e) P Q = Q d e

-- what it allows, taken or not, wherever it may be called: two forms that are one, or two clashes
module _ {n v : ℕ} {table : List ℕ} {S : Form} (f : Fact ℕ) (ready : Ready n v table S) (in_range : InRange n v f) where
  pub next_one :
      {A B E F : Type 0} (r : Result A E) (s : Result B F) (T : A → Form) (U : B → Form) → Took n (meet_at n table) v S (f ∷ []) r T
      → Took n (meet_at n table) v S (f ∷ []) s U → OneOutcome r s (λ x y. SameForm (T x) (U y)) (λ _ _. Unit {0})
  next_one (Ok x) (Ok y) T U t u = with_fact_one ready.lawful (some_node n v f in_range) t u
  next_one (Ok x) (Err e) T U t u = taken_not_refuted ready.lawful (some_node n v f in_range) t u
  next_one (Err d) (Ok y) T U t u = taken_not_refuted ready.lawful (some_node n v f in_range) u t
  next_one (Err d) (Err e) T U t u = tt

-- what `Solved::take_all` allows of the facts given: where all are taken one form, and else one place where it stops
module _ {n v : ℕ} {meet : ℕ → ℕ → ℕ} (L : Lawful n meet) (pos : 0 < v) (S : Form) (fs : List (Fact ℕ)) where
  -- the facts before a clash hold none
  not_taken : {T : Form} (i j : ℕ) → Taken n meet v S (take j fs) T → Stopped n meet v S fs i → i < j → ⊥
  not_taken i j t stop h =
      let clash : Refuted n meet v S (take (i + 1) (take j fs)) = rw (take-take (i + 1) j fs (omega arith)) stop.refuted in
      let more = refuted_more n meet v S (take (i + 1) (take j fs)) (drop (i + 1) (take j fs)) clash in
      taken_not_refuted L pos t (rw (take-append-drop (i + 1) (take j fs)) at more)

  not_all : {T : Form} (i : ℕ) → Taken n meet v S fs T → Stopped n meet v S fs i → ⊥
  not_all i t stop =
      let more = refuted_more n meet v S (take (i + 1) fs) (drop (i + 1) fs) stop.refuted in
      taken_not_refuted L pos t (rw (take-append-drop (i + 1) fs) at more)

  pub folded_one :
      {A B : Type 0} (r : Result A ℕ) (s : Result B ℕ) (T U : Form) → Folded n meet v S fs r T → Folded n meet v S fs s U
      → OneOutcome r s (λ _ _. SameForm T U) (λ i j. i ≡ j)
  folded_one (Ok x) (Ok y) T U t u = with_fact_one L pos t u
  folded_one (Ok x) (Err j) T U t u = not_all j t u
  folded_one (Err i) (Ok y) T U t u = not_all i u t
  folded_one (Err i) (Err j) T U t u =
      by_cases (dec_lt i j) (λ h. absurd (not_taken i j u.before.1 t h))
      (λ a. by_cases (dec_lt j i) (λ h. absurd (not_taken j i t.before.1 u h)) (λ b. omega (arith, a, b)))

-- what `writing::put` allows: every byte and the place behind them
pub put_one : {bytes s t u : List ℕ} {at e f : ℕ} → Put bytes at s t e → Put bytes at s u f → (t ≡ u) × (e ≡ f)
put_one {bytes} {s} {t} {u} {at} {e} {f} p q = (whole t e p ∙ ap (λ (k : ℕ). (take at s ++ bytes) ++ drop k s) same ∙ sym (whole u f q), same)
  where
    same : e ≡ f
    same = p.ends ∙ sym q.ends

    whole : (x : List ℕ) (k : ℕ) → Put bytes at s x k → x ≡ (take at s ++ bytes) ++ drop k s
    whole x k r = sym (take-append-drop k x) ∙ cc (r.front, r.behind)
