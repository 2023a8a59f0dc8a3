-- How a run goes on from the bytes of L, case by case; and a packet that is read on is not too long.
-- Assumes nothing.
use mathlib.Core.Path.{◌≡◌, refl, ap}
use mathlib.Core.Bool.{Bool, true, false, cond}
use mathlib.Core.List.{List}
use Prim.Native.Nat.{ℕ, ◌+◌, ◌*◌, ◌≤◌, ◌<◌}
use native.Mathlib.Omega.{arith}
use lib.Dec.{eqb, ltb}
use lib.ListN.{get_or}
use borrow.Author.Tests.{eq-eqb, ne_eqb, lt-ltb, le-ltb, ltb-false}
use Rattle.rigcheck.specs.declared.Step.TheVariants.{End, Cut, Long, Packet}
use Rattle.rigcheck.specs.Lines.{step_of, longest}

module _ (got : ℕ) (p : List ℕ) where
  abbrev L : ℕ
  L = 256 * get_or p 0 0 + get_or p 1 0

  pub at_end : got ≡ 0 → End ≡ step_of got p
  unfolding step_of
  at_end e = rw (eq-eqb got 0 e)

  pub is_cut : (got ≡ 0 → ⊥) → got < 2 → Cut ≡ step_of got p
  unfolding step_of
  is_cut d h = rw (ne_eqb got 0 d, lt-ltb got 2 h)

  pub is_long : (got ≡ 0 → ⊥) → 2 ≤ got → longest < L → Long ≡ step_of got p
  unfolding step_of
  is_long d h l = rw (ne_eqb got 0 d, le-ltb got 2 h, lt-ltb longest L l)

  pub is_packet : (got ≡ 0 → ⊥) → 2 ≤ got → L ≤ longest → {size : ℕ} → size ≡ L → Packet size ≡ step_of got p
  unfolding step_of
  is_packet d h l e = rw (ne_eqb got 0 d, le-ltb got 2 h, le-ltb longest L l) (ap Packet e)

  short : (a b c : Bool) (s size : ℕ) → (c ≡ false → s ≤ longest) → cond a End (cond b Cut (cond c Long (Packet s))) ≡ Packet size → size ≤ longest
  short true b c s size f e = let z : ◌≡◌ {A = ℕ} 0 1 = cc in omega arith
  short false true c s size f e = let z : ◌≡◌ {A = ℕ} 0 1 = cc in omega arith
  short false false true s size f e = let z : ◌≡◌ {A = ℕ} 0 1 = cc in omega arith
  short false false false s size f e = let q : s ≡ size = cc in omega (arith, f refl)

  pub packet_short : {size : ℕ} → step_of got p ≡ Packet size → size ≤ longest
  unfolding step_of
  packet_short {size} e = short (eqb got 0) (ltb got 2) (ltb longest L) L size (λ q. ltb-false longest L q) e
