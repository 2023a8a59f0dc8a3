-- `tables::groups` meets its contract: the two sides of the law are compared.
-- Assumes nothing.
-- the two sides a and b, read at ij and jk
use mathlib.Core.Path.{◌≡◌, sym, ap, ap₂, ◌∙◌}
use mathlib.Core.Bool.{Bool}
use mathlib.Core.List.{List}
use Prim.Native.Nat.{ℕ, ◌+◌, ◌*◌}
use lib.Dec.{eqb}
use Rattle.replies.specs.declared.Cause.TheVariants.{LawBroken}
use Rattle.replies.specs.Replies.{unless}
use Rattle.kinds.specs.Kinds.{meet_at}
use Rattle.tables.specs.Check.{Law, law_reply}
use Rattle.tables.proofs.groups.Goals as goal

sides :
    (n : ℕ) (table : List ℕ) (i j k : ℕ) {ij jk a b : ℕ} → ij ≡ meet_at n table i j → jk ≡ meet_at n table j k → a ≡ meet_at n table ij k →
    b ≡ meet_at n table i jk → law_reply n table (Law.group i j k) ≡ unless (eqb a b) LawBroken (i * n + j)
unfolding law_reply
sides n table i j k e f p q =
    ap (λ (t : Bool). unless t LawBroken (i * n + j))
    (sym (ap₂ eqb (p ∙ ap (λ (x : ℕ). meet_at n table x k) e) (q ∙ ap (meet_at n table i) f)))

pub returns : goal.returns
returns c =
    let a = c.args in
    sides a.kinds.table.n a.kinds.table.entries.now a.i a.j a.k c.requires.met c.kind_at-jk.ensures.0
    c.kind_at.ensures.0 c.kind_at-2.ensures.0
