-- `masks::row_holds` meets its contract: each kind below i passes with it.
-- Assumes nothing.
use Rattle.std.proofs.Common.{ℕ, refl, rules, arith}
use borrow.Author.Tests.{tests}
use Rattle.std.proofs.lemmas.Iterator.{YieldsList-from_range, cases_from_all}
use Rattle.kinds.specs.Tables.{meet_of}
use Rattle.masks.specs.Masks.{Embedded}
use Rattle.masks.proofs.Chains.{each_passed}
use Rattle.masks.proofs.row_holds.Goals as goal

pub returns : goal.returns
returns c =
    let holds : ℕ → Type 0 = λ j. Embedded (meet_of c.args.kinds.table) c.args.all.now c.args.i j in
    each_passed holds (λ _. ℕ) _
    (cases_from_all _ _ _ holds (λ _. ℕ) c.all.ensures.ran (YieldsList-from_range 0 c.args.i c.args.i refl (omega arith))
    (λ x q k. search (rules, tests)) (λ x q k. 0))
