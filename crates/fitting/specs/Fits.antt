-- When the session's own bytes fit, by the clauses of 'Session block' about V, classes, kinds and links and no other.
-- Assumes nothing.
use Rattle.std.specs.Prelude.{ℕ, zero, suc, Bool, true, cond, ◌&&◌, ◌||◌, List, ◌==◌, nat_le, nat_lt}
use Rattle.runs.specs.Runs.{within}
use Rattle.meaning.specs.Form.{Form, unknown}
use Rattle.joints.specs.Layout.{joints_of, block_form}

-- the test passes at i, i + 1, .., count of them
unfoldable pub all : (ℕ → Bool) → ℕ → ℕ → Bool
all f i zero = true
all f i (suc count) = f i && all f (suc i) count

module _ (v : ℕ) (S : Form) where
  -- j is a joint that numbers a class: its smallest, as class numbers are at most their joints
  abbrev pub smallest : ℕ → Bool
  smallest j = nat_lt j v && S.class j == j

  -- class numbers are classes' smallest joints, a class number at most its joint; joints from v on have class 0
  abbrev pub class_fits : ℕ → Bool
  class_fits j = cond (nat_lt j v) (nat_le (S.class j) j && smallest (S.class j)) (S.class j == 0)

  -- links of a smallest joint are not known or lead to classes' smallest joints; other joints have a zero row
  abbrev pub link_fits : ℕ → ℕ → Bool
  link_fits j l = cond (smallest j) (S.link j l == unknown || smallest (S.link j l)) (S.link j l == 0)

module _ (n v : ℕ) (S : Form) where
  -- every class has a kind from 1 to n - 1, at its smallest joint; other joints have kind 0
  abbrev pub kind_fits : ℕ → Bool
  kind_fits j = cond (smallest v S j) (nat_le 1 (S.kind j) && nat_lt (S.kind j) n) (S.kind j == 0)

  -- class, kind and links of joint j fit
  abbrev pub joint_fits : ℕ → Bool
  joint_fits j = class_fits v S j && (kind_fits j && all (link_fits v S j) 0 16)

-- V is in range, and each joint fits
unfoldable pub joints_fit : ℕ → List ℕ → Bool
joints_fit n b = within 1 64 (joints_of b) && all (joint_fits n (joints_of b) (block_form b)) 0 64
