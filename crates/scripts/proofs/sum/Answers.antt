-- `scripts::sum` meets its contract. At i, the bytes below i are in the sum.
-- Assumes nothing.
use mathlib.Core.Path.{◌≡◌, ap, ap₂, ◌∙◌, sym, refl}
use Prim.Native.Nat.{ℕ, ◌+◌}
use native.Mathlib.Omega.{arith}
use native.Mathlib.Numerals.{add-one}
use mathlib.Core.List.{List}
use Rattle.scripts.specs.Rooms.{byte_at, summed, sum_of}
use Rattle.scripts.proofs.sum.Goals as goal

none_yet : (room : List ℕ) → 0 ≡ sum_of room 0
unfolding sum_of
none_yet room = refl

one_more : (room : List ℕ) (i : ℕ) → summed (sum_of room i) (byte_at room i) ≡ sum_of room (i + 1)
unfolding sum_of
one_more room i = sym (ap (sum_of room) (add-one i))

pub loop-i-init : goal.loop-i-init
loop-i-init g c = (omega arith, none_yet _)

pub loop-i-preserved : goal.loop-i-preserved
loop-i-preserved g c = (
  omega arith,
  c.in_ok-sum.ensures.done ∙ ap₂ summed c.loop-i.invariant.1 c.byte.ensures.0 ∙ one_more _ _,
)

pub returns-clause-done : goal.returns-clause-done
returns-clause-done g c = let e : c.loop-i.i ≡ c.args.size = omega arith in c.loop-i.invariant.1 ∙ ap (sum_of _) e
