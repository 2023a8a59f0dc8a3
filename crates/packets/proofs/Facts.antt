-- What a packet says, part by part: its facts under other names of joints.
-- Assumes nothing.
use mathlib.Core.Path.{◌≡◌, refl, sym, ap, ◌∙◌}
use mathlib.Core.Bool.{Bool, true, false, cond}
use mathlib.Core.List.{List, map}
use Prim.Native.Nat.{ℕ, zero, suc, ◌+◌, ◌<◌}
use native.Mathlib.Omega.{arith}
use lib.Dec.{eqb}
use Rattle.meaning.specs.Picture.{Fact, rename}
use Rattle.meaning.specs.Picture.Fact.{has_kind, same, leads}
use Rattle.meaning.specs.Solving.{InRange, AllInRange}
use Rattle.meaning.specs.Decoding.{Renamed}
use Rattle.meaning.proofs.Decoding.{renamed_by}
use Rattle.packets.specs.Packet.{byte, fact_at}
use Rattle.runs.specs.Runs.{each}
use Rattle.packets.specs.Facts.{fact_of}

module _ {J : Type 0} (joint : ℕ → J) where
  named :
      (kind equal : Bool) (a x y : ℕ) →
      cond kind (has_kind (joint a) x) (cond equal (same (joint a) (joint x)) (leads (joint a) x (joint y))) ≡
      rename joint (cond kind (has_kind a x) (cond equal (same a x) (leads a x y)))
  named true equal a x y = refl
  named false true a x y = refl
  named false false a x y = refl

  -- a fact is that on the numbers, its joints under their own names
  pub fact_named : (p : List ℕ) (at : ℕ) → fact_of joint p at ≡ rename joint (fact_of (λ j. j) p at)
  unfolding fact_of
  fact_named p at = named (eqb (byte p at) 1) (eqb (byte p at) 2) (byte p (at + 1)) (byte p (at + 2)) (byte p (at + 3))

  -- read on the numbers and named, a fact is that on the joints
  pub read_named :
      (Named : ℕ → J → Type 0) → ((a : ℕ) (x : J) → Named a x → x ≡ joint a) → (p : List ℕ) (at : ℕ) {f : Fact ℕ} {g : Fact J} →
      f ≡ fact_of (λ j. j) p at → Renamed Named f g → g ≡ fact_of joint p at
  read_named Named own p at {f} e r = renamed_by Named joint own f r ∙ ap (rename joint) e ∙ sym (fact_named p at)

  pub each_named :
      (p : List ℕ) (i count : ℕ) →
      each (λ k. fact_of joint p (fact_at p k)) i count ≡ map (rename joint) (each (λ k. fact_of (λ j. j) p (fact_at p k)) i count)
  unfolding each
  each_named p i zero = refl
  each_named p i (suc count) = cc (fact_named p (fact_at p i), each_named p (suc i) count)

-- the facts of a packet are in range if each is
pub each_in_range :
    (n v : ℕ) (f : ℕ → Fact ℕ) (i count : ℕ) → ((k : ℕ) → k < i + count → InRange n v (f k)) → AllInRange n v (each f i count)
unfolding each
each_in_range n v f i zero r = tt
each_in_range n v f i (suc count) r = (r i (omega arith), each_in_range n v f (suc i) count (λ k h. r k (omega arith)))
