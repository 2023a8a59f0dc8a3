-- What the reply to opening tells: sizes that do not fit are refused with 1; otherwise it is the reply to the table.
-- Assumes nothing.
use mathlib.Core.Path.{◌≡◌, refl, sym, ◌∙◌, ap}
use mathlib.Core.Bool.{Bool, true, false, cond, and-eq-true_iff}
use mathlib.Core.List.{List}
use Prim.Native.Nat.{ℕ, ◌*◌, ◌≤◌}
use lib.Dec.{eqb, leb}
use lib.ListN.{length}
use borrow.Author.Tests.{leb-true, eqb-true}
use Rattle.std.specs.Prelude.{Ok}
use Rattle.replies.specs.declared.Cause.TheVariants.{BadSize}
use Rattle.replies.specs.Replies.{refuses, third, refusal}
use Rattle.replies.proofs.Laws.{first_none, first_third, test_here, test_next, test_passed}
use Rattle.tables.specs.Check.{first_breach, table_reply, in_order}
use Rattle.kinds.specs.Sizes.{Sized}
use Rattle.tables.proofs.Lawfulness.{passes_done}
use Rattle.runs.specs.Runs.{within}
use Rattle.blocks.specs.Layout.{block_size, fresh_block}
use Rattle.opening.specs.Open.{sizes_fit, open_reply, open_block}

module _ (n v : ℕ) (table b : List ℕ) where
  pub record Fitting : Type 0 where
    pub sized : Sized n table
    pub v_low : 1 ≤ v
    pub v_high : v ≤ 64
    pub block : length b ≡ block_size

  pub fitting : sizes_fit n v table b ≡ true → Fitting
  fitting e =
      let kinds = (and-eq-true_iff (within 2 64 n) _).0 e in
      let joints = (and-eq-true_iff (within 1 64 v) _).0 kinds.1 in
      let sizes = (and-eq-true_iff (eqb (length table) (n * n)) _).0 joints.1 in
      let k = (and-eq-true_iff (leb 2 n) (leb n 64)).0 kinds.0 in
      let j = (and-eq-true_iff (leb 1 v) (leb v 64)).0 joints.0 in
      record {
        sized = record { low = leb-true 2 n k.0; high = leb-true n 64 k.1; size = eqb-true (length table) (n * n) sizes.0 };
        v_low = leb-true 1 v j.0;
        v_high = leb-true v 64 j.1;
        block = eqb-true (length b) block_size sizes.1;
      }

  pub not_fitting : sizes_fit n v table b ≡ false → open_reply n v table b ≡ refusal BadSize 0
  unfolding open_reply
  not_fitting e = test_here _ _ _ _ _ e

  pub then_table : sizes_fit n v table b ≡ true → open_reply n v table b ≡ table_reply n table
  unfolding open_reply
  then_table e = test_next _ _ _ _ _ e ∙ first_none (table_reply n table)

  -- an opening that does not refuse: all fits, and the table passes the check
  pub opens : refuses (open_reply n v table b) ≡ false → Fitting × (table_reply n table ≡ Ok 0)
  unfolding open_reply
  opens e =
      let passed = test_passed _ _ _ _ _ e in
      (fitting passed.0, passes_done n table (in_order n) (ap refuses (sym (first_none (table_reply n table))) ∙ passed.1))

  pub open_third : third (open_reply n v table b) ≡ 0
  unfolding open_reply first_breach
  open_third = first_third _ _ (first_third _ _ refl)

  pub stays : refuses (open_reply n v table b) ≡ true → b ≡ open_block n v table b
  unfolding open_block
  stays e = sym (ap (λ (t : Bool). cond t b (fresh_block n v table)) e)

  pub is_fresh : refuses (open_reply n v table b) ≡ false → fresh_block n v table ≡ open_block n v table b
  unfolding open_block
  is_fresh e = sym (ap (λ (t : Bool). cond t b (fresh_block n v table)) e)
