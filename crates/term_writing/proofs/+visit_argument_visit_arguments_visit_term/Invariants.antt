-- The measures of the cycle of calls {visit_argument, visit_arguments, visit_term}, and its loops' invariants. The measure is the number of
-- levels that may stand below, three times, so that a term comes before its arguments and these before each argument, where a level is left.
-- Assumes nothing.
use Rattle.std.proofs.Common.{◌≡◌, suc, ◌+◌, ◌*◌, length}
use Rattle.joints.specs.Layout.{block_form}
use Rattle.term_writing.specs.Visiting.{Through, Told}
use Rattle.term_writing.proofs.Steps.{text_below}
use Rattle.term_writing.proofs.+visit_argument_visit_arguments_visit_term.Given as goal

abbrev pub decreases-visit_argument : goal.decreases-visit_argument
decreases-visit_argument l = 3 * l.below

abbrev pub decreases-visit_arguments : goal.decreases-visit_arguments
decreases-visit_arguments l = 3 * l.below + 1

abbrev pub decreases-visit_term : goal.decreases-visit_term
decreases-visit_term l = 3 * l.below + 2

-- the arguments, one after the other
abbrev pub invariant-visit_arguments-loop-q : goal.invariant-visit_arguments-loop-q
invariant-visit_arguments-loop-q l =
    (length l.seen ≡ length l.initial.seen) ×
    Told (text_below (block_form l.session) l.below l.j (4 * l.q)) (Through (block_form l.session) l.j (4 * l.q)) (suc l.below) 0 l.from l.initial.to l.to l.initial.seen l.seen l.at

abbrev pub invariant-visit_arguments-loop-l : goal.invariant-visit_arguments-loop-l
invariant-visit_arguments-loop-l l =
    (length l.seen ≡ length l.fn.seen) ×
    Told (text_below (block_form l.session) l.below l.j l.l) (Through (block_form l.session) l.j l.l) (suc l.below) 0 l.from l.fn.to l.to l.fn.seen l.seen l.at
