-- `scripts::run` meets its contract: the letters so far are read, and their calls answered.
-- Assumes nothing.
use Rattle.std.proofs.Common.{◌≡◌, Ok}
use Rattle.scripts.proofs.Letters.{SoFar}
use Rattle.scripts.proofs.run.Given as goal

abbrev pub invariant-loop : goal.invariant-loop
invariant-loop g l =
    SoFar (λ f script h. (w : _) × (s : _) × (v : _) × (s.now ≡ script) × goal.F-step g f w s (Ok tt) v h) l.initial.answer (g.R.Read.remaining l.initial.input)
    l.counter l.script l.answer (g.R.Read.remaining l.input)
