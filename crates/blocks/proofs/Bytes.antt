-- Blocks as bytes: what stays when another form is put into a block, and that a well-formed block is fixed by its rig and its form, or by
-- what its form means: byte by byte, those of the session and those of the table's room.
-- Assumes nothing.
use mathlib.Core.Path.{◌≡◌, sym, ap, ◌∙◌, subst}
use mathlib.Core.Logic.{by_cases}
use mathlib.Core.List.{List}
use Prim.Native.Nat.{ℕ, ◌+◌, ◌-◌, ◌*◌, ◌≤◌}
use native.Mathlib.Omega.{arith}
use native.Mathlib.Decide.{dec_lt}
use lib.ListN.{length, get_or, take}
use lib.Seq.{ext_get_or}
use Rattle.tables.specs.Check.{table_reply}
use Rattle.meaning.specs.declared.RigJoint.{RigJoint}
use Rattle.meaning.specs.Picture.{Fact}
use Rattle.meaning.specs.Form.{list_form, taken_facts}
use Rattle.meaning.specs.Solving.{Well}
use Rattle.meaning.specs.Rig.{Rig, SameMeaning}
use Rattle.meaning.specs.Rig.Profile.{every}
use Rattle.meaning.proofs.SameForm.{SameForm, form_sym, form_well}
use Rattle.meaning.proofs.Unique.{same_meaning, one_form}
use Rattle.joints.specs.Layout.{session_size, kinds_of, joints_of, block_form, taken}
use Rattle.joints.specs.Storing.{with_form}
use Rattle.joints.proofs.Parts.{byte_from, byte_in, with_size, with_front, with_behind, with_form_lem, own_same}
use Rattle.blocks.specs.Layout.{block_size, room_of, table_of, rig_of}
use Rattle.blocks.proofs.Shape.{WellBlock, GoodBlock, block_rig}

-- blocks with the same n, V and table rest on the same rig
pub same_rig : (b b' : List ℕ) → kinds_of b ≡ kinds_of b' → table_of b ≡ table_of b' → joints_of b ≡ joints_of b' → rig_of b ≡ rig_of b'
same_rig b b' n t v = rig_of_lem n t v
  where
    rig_of_lem : {m k : ℕ} {x y : List ℕ} {v w : ℕ} → m ≡ k → x ≡ y → v ≡ w →
        ◌≡◌ {A = Rig} (record { kinds = m; table = x; joints = v; profile = every }) (record { kinds = k; table = y; joints = w; profile = every })
    rig_of_lem p q r = rw (p, q, r)

-- blocks with the same room have the same bytes there
same_behind : (b b' : List ℕ) → room_of b ≡ room_of b' → (i : ℕ) → session_size ≤ i → get_or b i 0 ≡ get_or b' i 0
same_behind b b' e i h =
    byte_from session_size b i h ∙ ap (λ (d : List ℕ). get_or d (i - session_size) 0) e ∙ sym (byte_from session_size b' i h)

-- another form put into a block leaves its rig
pub with_rig :
    (b c k r : List ℕ) → length b ≡ block_size → 64 ≤ length c → 64 ≤ length k → 1024 ≤ length r → rig_of (with_form b c k r) ≡ rig_of b
with_rig b c k r size lc lk lr =
    same_rig (with_form b c k r) b kinds
    (ap (λ (n : ℕ). take (n * n) (room_of (with_form b c k r))) kinds
    ∙ ap (take (kinds_of b * kinds_of b)) (with_behind b c k r (omega arith) lc lk lr))
    (with_front b c k r (omega arith) lc lk lr 1 (omega arith))
  where
    kinds : kinds_of (with_form b c k r) ≡ kinds_of b
    kinds = with_front b c k r (omega arith) lc lk lr 0 (omega arith)

-- what is said of a rig is said of an equal one
pub at_rig_lem : {R S : Rig} (X : Rig → Type 0) → R ≡ S → X R → X S
at_rig_lem X e x = subst X e x

-- a block that differs from a well-formed one in its form alone, where that is well formed
stays_well :
    {b w : List ℕ} → WellBlock b → rig_of w ≡ rig_of b → ((i : ℕ) → session_size ≤ i → get_or w i 0 ≡ get_or b i 0) →
    Well (kinds_of b) (joints_of b) (block_form w) → WellBlock w
stays_well {b} {w} old e behind well =
    let n : kinds_of w ≡ kinds_of b = ap (λ (R : Rig). R.kinds) e in
    let v : joints_of w ≡ joints_of b = ap (λ (R : Rig). R.joints) e in
    record {
      n_low = rw n old.n_low;
      n_high = rw n old.n_high;
      v_low = rw v old.v_low;
      v_high = rw v old.v_high;
      passes = ap (λ (R : Rig). table_reply R.kinds R.table) e ∙ old.passes;
      well = rw (n, v) well;
      zeros = λ i h. behind i (omega arith) ∙ old.zeros i (rw n at h);
    }

-- what a caller who puts a form into a good block gets: a good block of the same rig with this form
module _
    {b : List ℕ} (g : GoodBlock b)
    (c k r : List ℕ) (lc : 64 ≤ length c) (lk : 64 ≤ length k) (lr : 1024 ≤ length r)
    (well : Well (kinds_of b) (joints_of b) (list_form c k r)) where
  pub stored_form : SameForm (block_form (with_form b c k r)) (list_form c k r)
  stored_form = with_form_lem b c k r (omega (arith, g.size)) lc lk lr g.well.v_high well

  pub stored_good : GoodBlock (with_form b c k r)
  stored_good =
      record {
        size = with_size b c k r (omega (arith, g.size)) lc lk lr ∙ g.size;
        well =
            stays_well g.well (with_rig b c k r g.size lc lk lr)
            (same_behind (with_form b c k r) b (with_behind b c k r (omega (arith, g.size)) lc lk lr))
            (form_well (form_sym stored_form) well);
      }

-- good blocks of one rig and one form are equal: the session's own bytes, the table, behind it
module _ {b b' : List ℕ} (g : GoodBlock b) (g' : GoodBlock b') (rig : rig_of b ≡ rig_of b') where
  kinds_one : kinds_of b ≡ kinds_of b'
  kinds_one = ap (λ (R : Rig). R.kinds) rig

  table_same : (i : ℕ) → session_size ≤ i → get_or b i 0 ≡ get_or b' i 0
  table_same i h =
      let square : kinds_of b * kinds_of b ≡ kinds_of b' * kinds_of b' = ap (λ (m : ℕ). m * m) kinds_one in
      by_cases (dec_lt i (session_size + kinds_of b * kinds_of b))
      (λ inside.
      byte_in session_size (kinds_of b * kinds_of b) b i h inside
      ∙ ap (λ (R : Rig). get_or R.table (i - session_size) 0) rig
      ∙ sym (byte_in session_size (kinds_of b' * kinds_of b') b' i h (omega arith)))
      (λ d. g.well.zeros i (omega arith) ∙ sym (g'.well.zeros i (omega arith)))

  module _ (e : SameForm (block_form b) (block_form b')) where
    byte_same : (i : ℕ) → get_or b i 0 ≡ get_or b' i 0
    byte_same i =
        by_cases (dec_lt i session_size)
        (λ h. own_same b b' kinds_one (ap (λ (R : Rig). R.joints) rig) e i h)
        (λ d. table_same i (omega arith))

    pub same_bytes : b ≡ b'
    same_bytes = ext_get_or 0 b b' (g.size ∙ sym g'.size) (λ i h. byte_same i)

  -- the form of the second, over the rig of the first
  form_there : Well (kinds_of b) (joints_of b) (block_form b')
  form_there = at_rig_lem (λ R. Well R.kinds R.joints (block_form b')) (sym rig) g'.well.well

  taken_there : taken b' ≡ taken_facts (joints_of b) (block_form b')
  taken_there = ap (λ (R : Rig). taken_facts R.joints (block_form b')) (sym rig)

  -- good blocks of one rig that mean the same are equal
  pub same_meaning_bytes : SameMeaning (rig_of b) (taken b) (taken b') → b ≡ b'
  same_meaning_bytes m = same_bytes (same_meaning (block_rig g.well) g.well.well form_there (rw taken_there at m))

  pub one_block : (facts : List (Fact RigJoint)) → SameMeaning (rig_of b) (taken b) facts → SameMeaning (rig_of b) (taken b') facts → b ≡ b'
  one_block facts m m' = same_bytes (one_form (block_rig g.well) g.well.well form_there facts m (rw taken_there at m'))
