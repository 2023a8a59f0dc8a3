-- The measures of the cycle of calls {read_arguments, read_term}: how much of the text is left, since a call reads at least a sign and a
-- number before the next. Between two arguments of the loop, the tokens read so far and their facts.
-- Assumes nothing.
use Prim.Native.Nat.{◌-◌}
use lib.ListN.{length}
use Rattle.term_reading.proofs.Terms.{Going}
use Rattle.term_reading.proofs.Reader.+terms.Given as goal

abbrev pub decreases-read_arguments : goal.decreases-read_arguments
decreases-read_arguments l = length l.self.now.text.now - l.from.at

abbrev pub decreases-read_term : goal.decreases-read_term
decreases-read_term l = length l.self.now.text.now - l.from.at

abbrev pub invariant-read_arguments-loop-link : goal.invariant-read_arguments-loop-link
invariant-read_arguments-loop-link l = Going l.self.text.now l.self.n l.self.v l.around l.joint l.initial.front l.initial.packet l.front l.packet

abbrev pub decreases-read_arguments-loop-link : goal.decreases-read_arguments-loop-link
decreases-read_arguments-loop-link l = length l.self.text.now - l.front.at
