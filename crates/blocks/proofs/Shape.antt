-- A block is well formed exactly when n is in range, its table passes the check, the bytes behind the table are zero and the session's own
-- bytes fit: each test of the definition is read as the fact it tests, both ways. And what the reply to a lent block tells of it.
-- Assumes nothing.
use mathlib.Core.Path.{◌≡◌, refl, sym, ap, ◌∙◌}
use mathlib.Core.Bool.{Bool, true, false, not, ◌&&◌}
use mathlib.Core.List.{List, [], ◌∷◌}
use Prim.Native.Nat.{ℕ, ◌+◌, ◌-◌, ◌*◌, ◌<◌, ◌≤◌}
use native.Mathlib.Omega.{arith}
use lib.Dec.{eqb}
use lib.ListN.{length, get_or, drop, length-drop}
use lib.Seq.{length-take-le, get_or-drop}
use borrow.Author.Tests.{eqb-true, eq-eqb, ne_eqb, not-true}
use Rattle.std.specs.Prelude.{Ok}
use Rattle.kinds.proofs.Offset.{square_le}
use Rattle.replies.specs.declared.Cause.TheVariants.{BadSize, BadBlock}
use Rattle.replies.specs.Replies.{refuses, first_refusal, Reply, refusal}
use Rattle.replies.proofs.Laws.{first_none, first_next, first_passed, test_here, test_next, test_passed}
use Rattle.runs.specs.Runs.{all_zero, within}
use Rattle.runs.proofs.Zeros.{zero_at, all_zero_lem}
use Rattle.tables.specs.Check.{in_order, table_reply}
use Rattle.kinds.specs.Sizes.{Sized}
use Rattle.tables.proofs.Lawfulness.{passes_done, passes_lawful}
use Rattle.meaning.specs.Form.{unknown}
use Rattle.meaning.specs.Solving.{Well}
use Rattle.meaning.specs.Rig.{Rig}
use Rattle.meaning.proofs.Rigs.{LawfulRig}
use Rattle.joints.specs.Layout.{session_size, kinds_of, joints_of, block_form}
use Rattle.fitting.specs.Fits.{joints_fit}
use Rattle.fitting.proofs.Tests.{range_use, range_make}
use Rattle.fitting.proofs.Shape.{joints_apart, joints_together}
use Rattle.blocks.specs.Layout.{block_size, room_of, table_of, rig_of}
use Rattle.blocks.specs.WellFormed.{table_fits, well_formed, block_reply, Stands}
use Rattle.std.proofs.lemmas.Bool.{and_from, and_parts}

-- the clauses of a well-formed block
pub record WellBlock (b : List ℕ) : Type 0 where
  pub n_low : 2 ≤ kinds_of b
  pub n_high : kinds_of b ≤ 64
  pub v_low : 1 ≤ joints_of b
  pub v_high : joints_of b ≤ 64
  pub passes : table_reply (kinds_of b) (table_of b) ≡ Ok 0
  pub well : Well (kinds_of b) (joints_of b) (block_form b)
  pub zeros : (i : ℕ) → session_size + kinds_of b * kinds_of b ≤ i → get_or b i 0 ≡ 0

module _ (b : List ℕ) where
  behind_table : (i : ℕ) → get_or (drop (kinds_of b * kinds_of b) (room_of b)) i 0 ≡ get_or b (session_size + kinds_of b * kinds_of b + i) 0
  behind_table i =
      get_or-drop (kinds_of b * kinds_of b) (room_of b) i 0
      ∙ get_or-drop session_size b (kinds_of b * kinds_of b + i) 0
      ∙ ap (λ (k : ℕ). get_or b k 0) (omega arith)

  pub taken_apart : well_formed b ≡ true → WellBlock b
  unfolding table_fits
  taken_apart e =
      let n = kinds_of b in
      let fits = (and_parts (table_fits n (room_of b)) (joints_fit n b) e).0 in
      let in_n = range_use 2 64 n (and_parts (within 2 64 n) (table_passes && rest_zero) fits).0 in
      let behind_n = (and_parts (within 2 64 n) (table_passes && rest_zero) fits).1 in
      let joints = joints_apart n b (omega (arith, in_n.0)) (and_parts (table_fits n (room_of b)) (joints_fit n b) e).1 in
      record {
        n_low = in_n.0;
        n_high = in_n.1;
        v_low = joints.v_low;
        v_high = joints.v_high;
        passes =
            passes_done n (table_of b) (in_order n)
            (not-true (refuses (table_reply n (table_of b))) (and_parts table_passes rest_zero behind_n).0);
        well = joints.well;
        zeros = λ i h.
            let k : session_size + n * n + (i - (session_size + n * n)) ≡ i = omega arith in
            ap (λ (m : ℕ). get_or b m 0) (sym k)
            ∙ sym (behind_table (i - (session_size + n * n)))
            ∙ zero_at (drop (n * n) (room_of b)) (and_parts table_passes rest_zero behind_n).1 (i - (session_size + n * n));
      }
    where
      table_passes : Bool
      table_passes = not (refuses (table_reply (kinds_of b) (table_of b)))

      rest_zero : Bool
      rest_zero = all_zero (drop (kinds_of b * kinds_of b) (room_of b))

  pub put_together : WellBlock b → well_formed b ≡ true
  unfolding table_fits
  put_together w =
      let n = kinds_of b in
      and_from (table_fits n (room_of b)) (joints_fit n b)
      (and_from (within 2 64 n) _ (range_make 2 64 n w.n_low w.n_high)
      (and_from (not (refuses (table_reply n (table_of b)))) _ (ap (λ (r : Reply). not (refuses r)) w.passes)
      (all_zero_lem (drop (n * n) (room_of b)) (λ i. behind_table i ∙ w.zeros _ (omega arith)))))
      (joints_together n b (record { v_low = w.v_low; v_high = w.v_high; well = w.well }))

-- what a caller needs of a well-formed block's numbers and table
module _ {b : List ℕ} (w : WellBlock b) where
  pub two_kinds : 1 < kinds_of b
  two_kinds = w.n_low

  pub some_joint : 0 < joints_of b
  some_joint = w.v_low

  pub joints_known : joints_of b ≤ unknown
  joints_known = omega (arith, w.v_high)

  pub square_high : kinds_of b * kinds_of b ≤ 4096
  square_high = square_le w.n_high

  pub block_rig : LawfulRig (rig_of b)
  block_rig =
      record {
        lawful = passes_lawful (kinds_of b) (table_of b) w.passes;
        two = w.n_low;
        some = w.v_low;
        few = w.v_high;
      }

  pub block_sized : length b ≡ block_size → Sized (kinds_of b) (table_of b)
  block_sized size =
      record {
        low = w.n_low;
        high = w.n_high;
        size = length-take-le (kinds_of b * kinds_of b) (room_of b) (omega (arith, length-drop session_size b, square_high));
      }

-- a well-formed block of the right size
pub record GoodBlock (b : List ℕ) : Type 0 where
  pub size : length b ≡ block_size
  pub well : WellBlock b

module _ (b : List ℕ) where
  pub good_block : refuses (block_reply b) ≡ false → GoodBlock b
  unfolding block_reply
  good_block e =
      let sized = test_passed (eqb (length b) block_size) _ _ _ _ e in
      let formed = test_passed (well_formed b) _ _ _ _ sized.1 in
      record { size = eqb-true (length b) block_size sized.0; well = taken_apart b formed.0 }

  pub wrong_size : (length b ≡ block_size → ⊥) → block_reply b ≡ refusal BadSize 0
  unfolding block_reply
  wrong_size d = test_here _ _ _ _ _ (ne_eqb (length b) block_size d)

  pub not_well : length b ≡ block_size → well_formed b ≡ false → block_reply b ≡ refusal BadBlock 0
  unfolding block_reply
  not_well e w = test_next _ _ _ _ _ (eq-eqb (length b) block_size e) ∙ test_here _ _ _ _ _ w

  pub all_well : length b ≡ block_size → well_formed b ≡ true → block_reply b ≡ Ok 0
  unfolding block_reply
  all_well e w = test_next _ _ _ _ _ (eq-eqb (length b) block_size e) ∙ test_next _ _ _ _ _ w ∙ first_none (Ok 0)

pub block_done : {b : List ℕ} → GoodBlock b → block_reply b ≡ Ok 0
block_done {b} g = all_well b g.size (put_together b g.well)

-- a call that goes on past the reply to its block has a good block
pub call_goes_on : (b : List ℕ) (next : Reply) → first_refusal (block_reply b ∷ []) next ≡ Ok 0 → GoodBlock b × (next ≡ Ok 0)
call_goes_on b next e =
    let passed = first_passed (block_reply b) [] next (ap refuses e) in
    (good_block b passed.0, sym (first_next (block_reply b) [] next passed.0 ∙ first_none next) ∙ e)

-- a good block stands for its own rig, and a block that stands for a rig is good
pub stands_itself : {b : List ℕ} → GoodBlock b → Stands (rig_of b) b
stands_itself {b} g = record { size = g.size; well = put_together b g.well; rig = refl }

pub stands_good : {R : Rig} {b : List ℕ} → Stands R b → GoodBlock b
stands_good {b = b} s = record { size = s.size; well = taken_apart b s.well }
