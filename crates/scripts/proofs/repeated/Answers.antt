-- `scripts::repeated` meets its contract. At i, the bytes of the facts below i are put.
-- Assumes nothing.
use mathlib.Core.Path.{◌≡◌, refl, ap, ap₂, ◌∙◌}
use mathlib.Core.List.{List}
use Prim.Native.Nat.{ℕ, suc, ◌+◌, ◌-◌, ◌*◌, ◌%◌, ◌≤◌}
use native.Mathlib.Omega.{arith}
use Rattle.scripts.specs.Rooms.{byte_at, with_byte}
use Rattle.scripts.specs.Scripts.{repeated_facts}
use Rattle.scripts.proofs.repeated.Goals as goal

none_yet : (room : List ℕ) (base : ℕ) → room ≡ repeated_facts room base 0
unfolding repeated_facts
none_yet room base = refl

next-put :
    (room : List ℕ) (base k : ℕ)
    → with_byte (repeated_facts room base k) (base + (k + 4)) (byte_at (repeated_facts room base k) (base + k) + byte_at room (base + 4 + (k + 4) % 4))
    ≡ repeated_facts room base (suc k)
unfolding repeated_facts
next-put room base k = refl

one_more :
    (room : List ℕ) (base : ℕ) {next : List ℕ} {i x step : ℕ} → 4 ≤ i → next ≡ repeated_facts room base (i - 4) → step ≡ byte_at room (base + 4 + i % 4)
    → x ≡ byte_at next (base + i - 4) → with_byte next (base + i) (x + step) ≡ repeated_facts room base (i + 1 - 4)
one_more room base {next} {i} h e f g =
    let b : i ≡ i - 4 + 4 = omega arith in
    let d : suc (i - 4) ≡ i + 1 - 4 = omega arith in
    let q : base + i - 4 ≡ base + (i - 4) = omega arith in
    ap₂ (λ (y z : ℕ). with_byte next (base + i) (y + z)) (g ∙ ap (byte_at next) q) f
    ∙ ap (λ (xs : List ℕ). with_byte xs (base + i) (byte_at xs (base + (i - 4)) + byte_at room (base + 4 + i % 4))) e
    ∙ ap (λ (y : ℕ). with_byte (repeated_facts room base (i - 4)) (base + y) (byte_at (repeated_facts room base (i - 4)) (base + (i - 4)) + byte_at room (base + 4 + y % 4))) b
    ∙ next-put room base (i - 4)
    ∙ ap (repeated_facts room base) d

pub loop-i-init : goal.loop-i-init
loop-i-init c = (omega arith, refl, omega arith, none_yet _ _)

pub loop-i-preserved : goal.loop-i-preserved
loop-i-preserved c =
    let l = c.loop-i in (
      omega (arith, l.invariant.0),
      l.invariant.1,
      omega (arith, l.invariant.0),
      c.set.ensures ∙ one_more _ _ l.invariant.0 l.invariant.3 c.byte-step.ensures.0 c.byte.ensures.0,
    )

pub returns : goal.returns
returns c =
    let l = c.loop-i in
    let e : l.i - 4 ≡ 4 * c.args.count - 4 = omega (arith, l.invariant.1, l.invariant.2) in
    l.invariant.3 ∙ ap (repeated_facts _ _) e
