-- `tables::first_several` meets its contract: the two parts of the order, the second where the first refuses nothing. Then the triples that are not
-- looked at need not be.
-- Assumes nothing.
use mathlib.Core.Path.{◌∙◌, sym}
use Rattle.tables.specs.Check.{pairs}
use Rattle.replies.proofs.Laws.{went_on, stopped, handed_back}
use Rattle.tables.proofs.Scan.{first_of, second_of}
use Rattle.tables.proofs.Lawfulness.{passes_done}
use Rattle.tables.proofs.Triples.{kinds_entries, same_reply}
use Rattle.tables.proofs.first_several.Goals as goal

pub returns-in_err-first_pair : goal.returns-in_err-first_pair
returns-in_err-first_pair c =
    handed_back c.first_pair.ensures c.in_err-first_pair.was c.from_residual.ensures.1
    ∙ sym (first_of _ _ (pairs _) _ (stopped c.first_pair.ensures c.in_err-first_pair.was))

pub returns : goal.returns
returns c =
    let passed = went_on c.first_pair.ensures c.in_ok-first_pair.was in
    c.first_triple.ensures
    ∙ sym (second_of _ _ (pairs _) _ passed
    ∙ same_reply (record { entries_hold = kinds_entries _ _ c.args.kinds.kinds; singles_hold = c.requires; pairs_hold = passes_done _ _ (pairs _) passed }))
