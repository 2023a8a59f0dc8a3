-- `reach::Marks::with` meets its contract: 1 shifted by j is 2 ^ j, of 32 bits.
-- Assumes nothing.
use mathlib.Core.Path.{sym, ◌∙◌, subst}
use Prim.Native.Nat.{ℕ, ◌^◌}
use native.Mathlib.Omega.{arith}
use native.Mathlib.Nat.{one-mul}
use lib.Bits.{bit_or}
use lib.Pow.{shl_exact}
use borrow.Author.Rules.{rules}
use Rattle.reach.specs.Marking.{WithMark}
use Rattle.reach.proofs.Marking.{with_bit}
use Rattle.reach.proofs.Marks.with.Goals as goal

pub returns : goal.returns
returns c =
    let a = c.args in
    let shifted = shl_exact {a = 1} 1 a.j 32 (omega arith) (omega (arith, c.requires)) ∙ one-mul (2 ^ a.j) in
    subst (λ (x : ℕ). WithMark a.self.0 a.j (bit_or a.self.0 x)) (sym shifted)
    (with_bit a.self.0 a.j (search rules) c.requires)
