-- What it means for a packet that no reply from 5 to 9 fits it: its parts fill it, and their numbers are in range. Each test of the
-- definition, and each turn of its searches, is read back from the answer "done".
-- Assumes nothing.
use mathlib.Core.Path.{◌≡◌, refl, sym, ap, ◌∙◌}
use mathlib.Core.Bool.{Bool, true, false, ◌&&◌, cond, false≢true}
use mathlib.Core.List.{List}
use Prim.Native.Nat.{ℕ, zero, suc, ◌+◌, ◌≤◌, ◌<◌}
use native.Mathlib.Omega.{arith}
use native.Mathlib.Nat.{not-suc-le-zero, le_of_suc-le-suc, add-zero}
use lib.Dec.{eqb, ltb}
use lib.ListN.{length}
use borrow.Author.Tests.{ltb-true, leb-true, eqb-true}
use Rattle.std.specs.Prelude.{Ok}
use Rattle.replies.specs.declared.Cause.TheVariants.{BadPart}
use Rattle.replies.specs.Replies.{refuses, third}
use Rattle.replies.proofs.Laws.{done, first_none, first_passed, first_third, test_passed}
use Rattle.runs.specs.Runs.{each, within}
use Rattle.meaning.specs.Picture.Fact.{has_kind, same, leads}
use Rattle.meaning.specs.Solving.{InRange}
use Rattle.packets.specs.Packet.{byte, L, ties, joints, tie_at, fact_at, fact_count}
use Rattle.packets.specs.Facts.{fact_of}
use Rattle.screening.specs.declared.Range.{Range}
use Rattle.screening.specs.declared.Wanted.{Wanted}
use Rattle.screening.specs.Screening.{tie_fits, fact_fits, first_unfit, first_bad_fact, packet_reply}
use Rattle.screening.specs.Whole.{Whole}
use Rattle.screening.proofs.Screening.{both, length_right, whole}

pub record WellFormed (w : Wanted) (n v : ℕ) (p : List ℕ) : Type 0 where
  pub size : length p ≡ L p + 2
  pub whole : Whole p
  pub version : byte p 2 ≡ 1
  pub purpose : byte p 3 ≡ w.purpose
  pub ties_from : w.ties.from ≤ ties p
  pub ties_to : ties p ≤ w.ties.to
  pub joints_from : w.joints.from ≤ joints p
  pub joints_to : joints p ≤ w.joints.to
  pub tie_rule : (i : ℕ) → i < ties p → byte p (tie_at i) < joints p
  pub tie_rig : (i : ℕ) → i < ties p → byte p (tie_at i + 1) < v
  pub fact : (i : ℕ) → i < fact_count p → InRange n (joints p) (fact_of (λ j. j) p (fact_at p i))

-- every part fits, of those from the i-th on
fit_from :
    (fits : ℕ → Bool) (at : ℕ → ℕ) (count i : ℕ) → refuses (first_unfit fits at i count) ≡ false →
    (k : ℕ) → k < count → fits (at (i + k)) ≡ true
unfolding first_unfit each
fit_from fits at zero i e k h = absurd (not-suc-le-zero h)
fit_from fits at (suc count) i e zero h = ap (λ (j : ℕ). fits (at j)) (add-zero i) ∙ (test_passed _ _ _ _ _ e).0
fit_from fits at (suc count) i e (suc k) h =
    ap (λ (j : ℕ). fits (at j)) (omega arith) ∙ fit_from fits at count (suc i) (test_passed (fits (at i)) BadPart (at i) _ (Ok 0) e).1 k (le_of_suc-le-suc h)

fit :
    (fits : ℕ → Bool) (at : ℕ → ℕ) (count : ℕ) → refuses (first_unfit fits at 0 count) ≡ false →
    (k : ℕ) → k < count → fits (at k) ≡ true
fit fits at count e k h = ap (λ (j : ℕ). fits (at j)) (omega arith) ∙ fit_from fits at count 0 e k h

-- a fact that fits is in range, whatever its tag
tagged :
    (kind equal link : Bool) (a x y joints n : ℕ) →
    cond kind (ltb a joints && ltb x n && eqb y 0)
    (cond equal (ltb a joints && ltb x joints && eqb y 0)
    (cond link (ltb a joints && ltb x 16 && ltb y joints)
    false)) ≡ true →
    InRange n joints (cond kind (has_kind a x) (cond equal (same a x) (leads a x y)))
tagged true equal link a x y joints n e =
    let b = both _ _ (both _ _ e).0 in (ltb-true a joints b.0, ltb-true x n b.1)
tagged false true link a x y joints n e =
    let b = both _ _ (both _ _ e).0 in (ltb-true a joints b.0, ltb-true x joints b.1)
tagged false false true a x y joints n e =
    let d = both _ _ e in
    let b = both _ _ d.0 in
    (ltb-true a joints b.0, ltb-true x 16 b.1, ltb-true y joints d.1)
tagged false false false a x y joints n e = absurd (false≢true e)

fact_in_range : (n : ℕ) (p : List ℕ) (at : ℕ) → fact_fits n p at ≡ true → InRange n (joints p) (fact_of (λ j. j) p at)
unfolding fact_fits fact_of
fact_in_range n p at e =
    tagged (eqb (byte p at) 1) (eqb (byte p at) 2) (eqb (byte p at) 3) (byte p (at + 1)) (byte p (at + 2)) (byte p (at + 3)) (joints p) n e

tie_in_range : (v : ℕ) (p : List ℕ) (at : ℕ) → tie_fits v p at ≡ true → (byte p at < joints p) × (byte p (at + 1) < v)
tie_in_range v p at e =
    let b = both (ltb (byte p at) (joints p)) (ltb (byte p (at + 1)) v) e in
    (ltb-true (byte p at) (joints p) b.0, ltb-true (byte p (at + 1)) v b.1)

in_range : (r : Range) (x : ℕ) → within r.from r.to x ≡ true → (r.from ≤ x) × (x ≤ r.to)
in_range r x e = let b = both _ _ e in (leb-true r.from x b.0, leb-true x r.to b.1)

module _ (w : Wanted) (n v : ℕ) (p : List ℕ) where
  pub well_formed_lem : refuses (packet_reply w n v p) ≡ false → WellFormed w n v p
  unfolding packet_reply
  well_formed_lem e =
      let lengths = test_passed _ _ _ _ _ e in
      let versions = test_passed _ _ _ _ _ lengths.1 in
      let purposes = test_passed _ _ _ _ _ versions.1 in
      let tied = test_passed _ _ _ _ _ purposes.1 in
      let jointed = test_passed _ _ _ _ _ tied.1 in
      let counted = test_passed _ _ _ _ _ jointed.1 in
      let in_ties = first_passed _ _ _ counted.1 in
      let in_facts = ap refuses (sym (first_none (first_bad_fact n p))) ∙ in_ties.1 in
      record {
        size = (length_right p lengths.0).1;
        whole = whole p lengths.0 counted.0;
        version = eqb-true (byte p 2) 1 versions.0;
        purpose = eqb-true (byte p 3) w.purpose purposes.0;
        ties_from = (in_range w.ties (ties p) tied.0).0;
        ties_to = (in_range w.ties (ties p) tied.0).1;
        joints_from = (in_range w.joints (joints p) jointed.0).0;
        joints_to = (in_range w.joints (joints p) jointed.0).1;
        tie_rule = λ i h. (tie_in_range v p (tie_at i) (fit (tie_fits v p) tie_at (ties p) in_ties.0 i h)).0;
        tie_rig = λ i h. (tie_in_range v p (tie_at i) (fit (tie_fits v p) tie_at (ties p) in_ties.0 i h)).1;
        fact = λ i h. fact_in_range n p (fact_at p i) (fit (fact_fits n p) (fact_at p) (fact_count p) in_facts i h);
      }

  pub packet_third : third (packet_reply w n v p) ≡ 0
  unfolding packet_reply first_unfit
  packet_third = first_third _ _ (first_third _ _ refl)

  -- done or a refusal
  pub packet_done : refuses (packet_reply w n v p) ≡ false → packet_reply w n v p ≡ Ok 0
  packet_done e = done _ e ∙ ap Ok packet_third
