-- `tables::first_breach` meets its contract: the parts of the order, each looked at where those before it refuse nothing.
-- Assumes nothing.
use mathlib.Core.Path.{◌∙◌, sym}
use Rattle.tables.specs.Check.{entries, singles}
use Rattle.replies.proofs.Laws.{went_on, stopped, handed_back}
use Rattle.tables.proofs.Scan.{first_of, second_of}
use Rattle.tables.proofs.Lawfulness.{passes_kept, kept_entries, passes_done}
use Rattle.tables.proofs.first_breach.Goals as goal

pub returns-in_err-first_entry : goal.returns-in_err-first_entry
returns-in_err-first_entry c =
    handed_back c.first_entry.ensures c.in_err-first_entry.was c.from_residual.ensures.1
    ∙ sym (first_of _ _ (entries _) _ (stopped c.first_entry.ensures c.in_err-first_entry.was))

pub invariant_of-kinds : goal.invariant_of-kinds
invariant_of-kinds c =
    record { kinds = (kept_entries _ _).0 (passes_kept _ _ (entries _) (went_on c.first_entry.ensures c.in_ok-first_entry.was)) }

pub returns-in_err-first_single : goal.returns-in_err-first_single
returns-in_err-first_single c =
    let passed = went_on c.first_entry.ensures c.in_ok-first_entry.was in
    handed_back c.first_single.ensures c.in_err-first_single.was c.from_residual-in_err-first_single.ensures.1
    ∙ sym (second_of _ _ (entries _) _ passed
    ∙ first_of _ _ (singles _) _ (stopped c.first_single.ensures c.in_err-first_single.was))

pub first_several-requires : goal.first_several-requires
first_several-requires c = passes_done _ _ (singles _) (went_on c.first_single.ensures c.in_ok-first_single.was)

pub returns : goal.returns
returns c =
    let entries_pass = went_on c.first_entry.ensures c.in_ok-first_entry.was in
    let singles_pass = went_on c.first_single.ensures c.in_ok-first_single.was in
    c.first_several.ensures ∙ sym (second_of _ _ (entries _) _ entries_pass ∙ second_of _ _ (singles _) _ singles_pass)
