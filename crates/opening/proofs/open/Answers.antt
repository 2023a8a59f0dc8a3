-- `opening::open` meets its contract: a refusal changes no byte, otherwise the fresh block is written.
-- Assumes nothing.
use mathlib.Core.Path.{sym, ap, ◌∙◌}
use native.Mathlib.Omega.{arith}
use Rattle.std.specs.Prelude.{ℕ, Ok}
use Rattle.replies.proofs.Laws.{done, went_on, stopped, handed_back}
use Rattle.opening.proofs.Opening.{opens, open_third, stays, is_fresh}
use Rattle.opening.proofs.open.Goals as goal

pub returns-in_err-open_reply : goal.returns-in_err-open_reply
returns-in_err-open_reply c = (
  handed_back c.open_reply.ensures c.in_err-open_reply.was c.from_residual.ensures.1,
  stays _ _ _ _ (stopped c.open_reply.ensures c.in_err-open_reply.was),
)

pub overflow_cast-n : goal.overflow_cast-n
overflow_cast-n c = omega (arith, (opens _ _ _ _ (went_on c.open_reply.ensures c.in_ok-open_reply.was)).0.sized.high)

pub overflow_cast-v : goal.overflow_cast-v
overflow_cast-v c = omega (arith, (opens _ _ _ _ (went_on c.open_reply.ensures c.in_ok-open_reply.was)).0.v_high)

pub write_fresh-requires : goal.write_fresh-requires
write_fresh-requires c =
    let f = (opens _ _ _ _ (went_on c.open_reply.ensures c.in_ok-open_reply.was)).0 in
    record { fact_1 = f.block; fact_2 = f.sized; fact_3 = (f.v_low, f.v_high) }

pub returns : goal.returns
returns c =
    let passed = went_on c.open_reply.ensures c.in_ok-open_reply.was in
    (sym (done _ passed ∙ ap (λ (t : ℕ). Ok t) (open_third _ _ _ _)), c.write_fresh.ensures ∙ is_fresh _ _ _ _ passed)
