-- What the answer of a function that takes facts says, and facts taken in two turns.
-- Assumes nothing.
use mathlib.Core.Path.{◌≡◌}
use mathlib.Core.Bool.{true, false, true≢false, false≢true}
use mathlib.Core.List.{List, ◌++◌}
use Prim.Native.Nat.{ℕ}
use Rattle.std.specs.Prelude.{Result, Ok, Err, IsErr, is_err, OnOk}
use Rattle.kinds.specs.Kinds.{meet_at}
use Rattle.meaning.specs.Picture.{Fact}
use Rattle.meaning.specs.Form.{Form}
use Rattle.meaning.specs.Solving.{Taken, Refuted}
use Rattle.meaning.proofs.Takes.{taken_then, refuted_then}
use Rattle.solver.specs.Unpacked.{Ready, Took}

module _ {A E : Type 0} where
  -- what an answer says where it is an error, and where it is none
  pub took_refuted :
      {n : ℕ} {meet : ℕ → ℕ → ℕ} {v : ℕ} {S : Form} (fs : List (Fact ℕ)) (r : Result A E) (T : A → Form) → IsErr r
      → Refuted n meet v S fs → Took n meet v S fs r T
  took_refuted fs (Ok x) T e c = absurd (false≢true e)
  took_refuted fs (Err d) T e c = c

  pub refuted_of :
      {n : ℕ} {meet : ℕ → ℕ → ℕ} {v : ℕ} {S : Form} (fs : List (Fact ℕ)) (r : Result A E) (T : A → Form) → is_err r ≡ true
      → Took n meet v S fs r T → Refuted n meet v S fs
  refuted_of fs (Ok x) T e t = absurd (false≢true e)
  refuted_of fs (Err d) T e t = t

  pub taken_of :
      {n : ℕ} {meet : ℕ → ℕ → ℕ} {v : ℕ} {S : Form} (fs : List (Fact ℕ)) (r : Result A E) (T : Form) → is_err r ≡ false
      → Took n meet v S fs r (λ _. T) → Taken n meet v S fs T
  taken_of fs (Ok x) T e t = t
  taken_of fs (Err d) T e t = absurd (true≢false e)

  pub on_ok : {P : Type 0} (r : Result A E) → is_err r ≡ false → OnOk r P → P
  on_ok (Ok x) e p = p
  on_ok (Err d) e p = absurd (true≢false e)

  -- the first facts are taken, and then the others are or are not
  pub took_then :
      {n : ℕ} {meet : ℕ → ℕ → ℕ} {v : ℕ} {S T : Form} (fs gs : List (Fact ℕ)) (r : Result A E) (U : A → Form)
      → Taken n meet v S fs T → Took n meet v T gs r U → Took n meet v S (fs ++ gs) r U
  took_then fs gs (Ok x) U a b = taken_then a b
  took_then fs gs (Err e) U a b = refuted_then gs a b

-- the form that facts make is as ready as the one before
pub ready_after :
    {n v : ℕ} {table : List ℕ} {S T : Form} {fs : List (Fact ℕ)} → Ready n v table S → Taken n (meet_at n table) v S fs T → Ready n v table T
ready_after d t =
    record { two = d.two; kinds = d.kinds; size = d.size; lawful = d.lawful; nodes = d.nodes; well = t.well }
