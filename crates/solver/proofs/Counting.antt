-- Classes counted by the class numbers: a node that has its own number is the smallest of its class.
-- Assumes nothing.
use mathlib.Core.Path.{◌≡◌, sym, ◌∙◌, ap}
use mathlib.Core.Logic.{by_cases}
use mathlib.Core.Bool.{Bool, true, false}
use Prim.Native.Nat.{ℕ, ◌+◌, ◌≤◌}
use native.Mathlib.Omega.{arith}
use native.Mathlib.Decide.{ℕ_discrete}
use lib.Dec.{eqb}
use borrow.Author.Tests.{eq-eqb, ne_eqb}
use Rattle.std.specs.Int.{from_bool}
use Rattle.meaning.specs.Form.{Form, classes}
use Rattle.solver.proofs.Run.{classes_one, classes_other}

pub one_counted : (S : Form) (j r : ℕ) → r ≡ from_bool (eqb (S.class j) j) → classes S (j + 1) ≡ classes S j + r
one_counted S j r e =
    by_cases (ℕ_discrete (S.class j) j)
    (λ q. classes_one S j q ∙ ap (λ k. classes S j + k) (sym (e ∙ ap from_bool (eq-eqb (S.class j) j q))))
    (λ d. classes_other S j d ∙ ap (λ k. classes S j + k) (sym (e ∙ ap from_bool (ne_eqb (S.class j) j d))))

pub at_most_one : (r : ℕ) (b : Bool) → r ≡ from_bool b → r ≤ 1
at_most_one r true e = omega (arith, e)
at_most_one r false e = omega (arith, e)
