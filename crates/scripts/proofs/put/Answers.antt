-- `scripts::put` meets its contract. At i, the bytes of the call below i are put.
-- Assumes nothing.
use mathlib.Core.Path.{◌≡◌, refl, ap, ap₂, ◌∙◌}
use mathlib.Core.List.{List}
use Prim.Native.Nat.{ℕ, suc, ◌+◌, ◌-◌, ◌≤◌}
use native.Mathlib.Omega.{arith}
use Rattle.scripts.specs.Rooms.{byte_at, with_byte, number_at, inside_of, put_first}
use Rattle.scripts.proofs.put.Goals as goal

none_yet : (from room : List ℕ) → room ≡ put_first from room 0
unfolding put_first
none_yet from room = refl

next-put :
    (from room : List ℕ) (k : ℕ)
    → with_byte (put_first from room k) (inside_of (number_at from 0 + k)) (byte_at from (k + 2)) ≡ put_first from room (suc k)
unfolding put_first
next-put from room k = refl

one_more :
    (from room : List ℕ) {next : List ℕ} {i at x : ℕ} → 2 ≤ i → next ≡ put_first from room (i - 2) → at ≡ inside_of (number_at from 0 + (i - 2))
    → x ≡ byte_at from i → with_byte next at x ≡ put_first from room (i + 1 - 2)
one_more from room {next} {i} {at} {x} h e f g =
    let b : i ≡ i - 2 + 2 = omega arith in
    let d : suc (i - 2) ≡ i + 1 - 2 = omega arith in
    ap₂ (λ (xs : List ℕ) (y : ℕ). with_byte xs y x) e f
    ∙ ap (with_byte (put_first from room (i - 2)) (inside_of (number_at from 0 + (i - 2)))) (g ∙ ap (byte_at from) b)
    ∙ next-put from room (i - 2)
    ∙ ap (put_first from room) d

pub loop-i-init : goal.loop-i-init
loop-i-init g c = (omega arith, omega (arith, c.in_ok-i-end.ensures.done), omega arith, none_yet _ _)

pub loop-i-preserved : goal.loop-i-preserved
loop-i-preserved g c =
    let l = c.loop-i in
    let from = c.args.bytes.now.room in
    let q : c.number.result + l.i - 2 ≡ c.number.result + (l.i - 2) =
    omega (arith, l.invariant.0) in
    let at : c.in_ok-at.at ≡ inside_of (number_at from 0 + (l.i - 2)) =
    c.in_ok-at.ensures.done.0
    ∙ ap inside_of (q ∙ ap (λ (x : ℕ). x + (l.i - 2)) c.number.ensures.0) in (
      omega (arith, l.invariant.0),
      l.invariant.1,
      omega (arith, l.invariant.0),
      c.set.ensures ∙ one_more from _ l.invariant.0 l.invariant.3 at c.byte.ensures.0,
    )

pub returns-clause-done : goal.returns-clause-done
returns-clause-done g c =
    let l = c.loop-i in
    let e : l.i - 2 ≡ c.in_ok-i-end.i-end - 2 = omega (arith, l.invariant.2) in
    l.invariant.3 ∙ ap (put_first _ _) (e ∙ ap (λ (x : ℕ). x - 2) c.in_ok-i-end.ensures.done.0)
