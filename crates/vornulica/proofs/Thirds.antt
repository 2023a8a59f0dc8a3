-- The third number of every reply is below 2^24, so that the packed number keeps it apart from the place: a refusal has third 0, at most 63
-- joins are told, and verdicts are 1 to 3. (Of writing: `write_third` in the crate writing; of opening: `open_third` in opening.)
-- Assumes nothing.
use mathlib.Core.Path.{◌≡◌, ◌∙◌, ap}
use mathlib.Core.List.{List}
use Prim.Native.Nat.{ℕ, ◌^◌, ◌-◌, ◌<◌}
use native.Mathlib.Omega.{arith}
use Rattle.replies.specs.Replies.{third, Reply}
use Rattle.replies.proofs.Laws.{refusal_third}
use Rattle.solver.proofs.Run.{classes_le}
use Rattle.joints.specs.Layout.{joints_of, block_form, class_count}
use Rattle.meaning.specs.declared.Verdict.{Verdict}
use Rattle.meaning.specs.declared.Verdict.TheVariants as verdict
use Rattle.meaning.specs.Rule.{verdict_number}
use Rattle.taking.specs.Take.{Take, take_refusal}
use Rattle.taking.specs.Take.Take.{refused, clashes, done}
use Rattle.taking.proofs.Taking.{taken_good}
use Rattle.asking.specs.Ask.{Ask, ask_refusal}
use Rattle.asking.specs.Ask.Ask.{refused as ask_refused, unreached, judged}

pub small : (r : Reply) → third r ≡ 0 → third r < 2 ^ 24
small r e = rw e (omega arith)

pub take_third : {b p : List ℕ} {r : Reply} {after : List ℕ} → Take b p r after → third r < 2 ^ 24
take_third {b} {p} {r} (refused e q s) = small r (ap third q ∙ refusal_third (take_refusal b p) e)
take_third {r = r} (clashes d i c q s) = small r (ap third q)
take_third {b} {p} {r} {after} (done d a q) =
    let e : third r ≡ class_count b - class_count after = ap third q in
    omega (arith, e, classes_le (block_form b) (joints_of b), (taken_good b p d).0.well.v_high)

verdict_few : (v : Verdict) → verdict_number v < 2 ^ 24
verdict_few verdict.Applies = omega arith
verdict_few verdict.RuledOut = omega arith
verdict_few verdict.Waits = omega arith

pub ask_third : {b p : List ℕ} {r : Reply} → Ask b p r → third r < 2 ^ 24
ask_third {b} {p} {r} (ask_refused e q) = small r (ap third q ∙ refusal_third (ask_refusal b p) e)
ask_third {r = r} (unreached d reach e) = small r (refusal_third r e)
ask_third {r = r} (judged d reach v j q) = let e : third r ≡ verdict_number v = ap third q in rw e (verdict_few v)
