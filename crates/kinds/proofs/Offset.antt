-- The offset of an entry lies inside its table, and a table has at most 4,096 bytes.
-- Assumes nothing.
use Prim.Native.Nat.{ℕ, ◌+◌, ◌*◌, ◌≤◌, ◌<◌}
use native.Mathlib.Nat.{mul-le-mul}
use lib.Arith.{digits_lt}

pub offset_lt : {n i j : ℕ} → i < n → j < n → i * n + j < n * n
offset_lt hi hj = digits_lt hi hj

pub square_le : {n : ℕ} → n ≤ 64 → n * n ≤ 4096
square_le h = mul-le-mul h h
