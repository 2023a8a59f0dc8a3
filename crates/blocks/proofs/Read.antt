-- What a call reads off its block: n, V and the table. What is said of these is said of what was read, and the other way round.
-- Assumes nothing.
use mathlib.Core.Path.{◌≡◌, sym, subst}
use mathlib.Core.List.{List}
use Prim.Native.Nat.{ℕ}
use Rattle.joints.specs.Layout.{kinds_of, joints_of}
use Rattle.blocks.specs.Layout.{table_of}

pub record Read (b : List ℕ) (n v : ℕ) (table : List ℕ) : Type 0 where
  pub kinds : n ≡ kinds_of b
  pub joints : v ≡ joints_of b
  pub table_is : table ≡ table_of b

module _ {b : List ℕ} {n v : ℕ} {table : List ℕ} (r : Read b n v table) (X : ℕ → ℕ → List ℕ → Type 0) where
  pub read_back : X n v table → X (kinds_of b) (joints_of b) (table_of b)
  read_back x =
      subst (X (kinds_of b) (joints_of b)) r.table_is
      (subst (λ (w : ℕ). X (kinds_of b) w table) r.joints (subst (λ (m : ℕ). X m v table) r.kinds x))

  pub as_read : X (kinds_of b) (joints_of b) (table_of b) → X n v table
  as_read x =
      subst (λ (m : ℕ). X m v table) (sym r.kinds)
      (subst (λ (w : ℕ). X (kinds_of b) w table) (sym r.joints) (subst (X (kinds_of b) (joints_of b)) (sym r.table_is) x))
