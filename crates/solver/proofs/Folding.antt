-- Facts taken one after another in a loop: at each turn the form at hand is what the facts so far make of the first form.
-- Assumes nothing.
use mathlib.Core.Path.{◌≡◌, sym, ◌∙◌, ap}
use mathlib.Core.List.{List, [], ◌∷◌, ◌++◌}
use Prim.Native.Nat.{ℕ, ◌+◌, ◌<◌}
use native.Mathlib.Omega.{arith}
use native.Mathlib.Numerals.{add-one}
use Rattle.kinds.specs.Kinds.{meet_at}
use Rattle.runs.specs.Runs.{each}
use Rattle.runs.proofs.Each.{each_more, each_length, each_take}
use Rattle.meaning.specs.Picture.{Fact}
use Rattle.meaning.specs.Form.{Form}
use Rattle.meaning.specs.Solving.{Taken, Refuted}
use Rattle.meaning.proofs.Takes.{taken_none, taken_then, refuted_then}
use Rattle.solver.specs.Unpacked.{Named, Ready, Stopped}
use Rattle.solver.proofs.Takes.{ready_after}

-- At i, with the form S at hand: the first i of whatever facts are given made it of the first form, and no row names a node from `top` on.
pub record Turning
    (n : ℕ) (table : List ℕ) (v : ℕ) (first : Form) (Given : (ℕ → Fact ℕ) → Type 0) (i : ℕ) (S : Form) (top : ℕ) : Type 0 where
  pub ready : Ready n v table S
  pub named : Named top S
  pub taken : (facts : ℕ → Fact ℕ) → Given facts → Taken n (meet_at n table) v first (each facts 0 i) S

one_more : (f : ℕ → Fact ℕ) (i : ℕ) → each f 0 i ++ (f i ∷ []) ≡ each f 0 (i + 1)
one_more f i = sym (ap (each f 0) (add-one i) ∙ each_more f 0 i ∙ ap (λ (k : ℕ). each f 0 i ++ (f k ∷ [])) (omega arith))

pub turn_begins :
    {n v : ℕ} {table : List ℕ} {S : Form} (Given : (ℕ → Fact ℕ) → Type 0) {top : ℕ} → Ready n v table S → Named top S
    → Turning n table v S Given 0 S top
unfolding each
turn_begins Given ready named = record { ready = ready; named = named; taken = λ facts given. taken_none ready.well }

module _
    {n v : ℕ} {table : List ℕ} {first : Form} {Given : (ℕ → Fact ℕ) → Type 0} {i : ℕ} {S : Form} {top : ℕ}
    (t : Turning n table v first Given i S top) {g : Fact ℕ} (is : (facts : ℕ → Fact ℕ) → Given facts → g ≡ facts i) where
  -- one fact more, g, which is the i-th
  pub turn_taken :
      {T : Form} {top' : ℕ} → Taken n (meet_at n table) v S (g ∷ []) T → Named top' T → Turning n table v first Given (i + 1) T top'
  turn_taken {T} next named =
      record {
        ready = ready_after t.ready next;
        named = named;
        taken = λ facts given.
            let one : Taken n (meet_at n table) v S (facts i ∷ []) T = rw (is facts given) at next in
            rw (← one_more facts i) (taken_then (t.taken facts given) one);
      }

  -- ... or it clashes
  pub turn_stops :
      {m : ℕ} → i < m → Refuted n (meet_at n table) v S (g ∷ []) → (facts : ℕ → Fact ℕ) → Given facts
      → Stopped n (meet_at n table) v first (each facts 0 m) i
  turn_stops {m} h clash facts given =
      let one : Refuted n (meet_at n table) v S (facts i ∷ []) = rw (is facts given) at clash in
      record {
        before = (S, rw (each_take facts 0 i m (omega arith)) (t.taken facts given));
        among = omega (arith, each_length facts 0 m);
        refuted = rw (each_take facts 0 (i + 1) m (omega arith), ← one_more facts i) (refuted_then (facts i ∷ []) (t.taken facts given) one);
      }
