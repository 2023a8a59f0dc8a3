-- What the laws give, for every number of kinds: `Under` is a partial order with 0 below and 1 above all, and the meet of two kinds is
-- the greatest kind under both. The other way round, a meet that gives the greatest kind under both is lawful.
-- Assumes nothing.
use mathlib.Core.Path.{◌≡◌}
use Prim.Native.Nat.{ℕ, ◌<◌}
use native.Mathlib.Omega.{arith}
use Rattle.kinds.specs.Kinds.{Under}
use Rattle.kinds.specs.Laws.{Lawful, Greatest}

module _ {n : ℕ} {meet : ℕ → ℕ → ℕ} (L : Lawful n meet) where
  pub under_refl : (i : ℕ) → i < n → Under meet i i
  under_refl i hi = L.self i hi

  pub under_antisym : (i j : ℕ) → i < n → j < n → Under meet i j → Under meet j i → i ≡ j
  under_antisym i j hi hj p q = cc (L.swap i j hi hj)

  pub under_trans : (i j k : ℕ) → i < n → j < n → k < n → Under meet i j → Under meet j k → Under meet i k
  under_trans i j k hi hj hk p q = cc (L.group i j k hi hj hk)

  pub none_under : (i : ℕ) → i < n → Under meet 0 i
  none_under i hi = L.none i hi

  pub under_any : (i : ℕ) → 1 < n → i < n → Under meet i 1
  under_any i h1 hi = cc (L.swap i 1 hi h1, L.any i hi)

  pub under_none : (i : ℕ) → 0 < n → i < n → Under meet i 0 → i ≡ 0
  under_none i h0 hi p = cc (L.swap i 0 hi h0, L.none i hi)

  pub meet_left : (i j : ℕ) → i < n → j < n → Under meet (meet i j) i
  meet_left i j hi hj = cc (L.group i j i hi hj hi, L.swap j i hj hi, L.group i i j hi hi hj, L.self i hi)

  pub meet_right : (i j : ℕ) → i < n → j < n → Under meet (meet i j) j
  meet_right i j hi hj = cc (L.group i j j hi hj hj, L.self j hj)

  pub meet_greatest : (k i j : ℕ) → k < n → i < n → j < n → Under meet k i → Under meet k j → Under meet k (meet i j)
  meet_greatest k i j hk hi hj p q = cc (L.group k i j hk hi hj)

-- a partial order of the kinds below n, with 0 below and 1 above all
pub record Ordered (n : ℕ) (R : ℕ → ℕ → Type 0) : Type 0 where
  pub reflexive : (i : ℕ) → i < n → R i i
  pub antisymmetric : (i j : ℕ) → i < n → j < n → R i j → R j i → i ≡ j
  pub transitive : (i j k : ℕ) → i < n → j < n → k < n → R i j → R j k → R i k
  pub least : (i : ℕ) → i < n → R 0 i
  pub most : (i : ℕ) → i < n → R i 1

module _ {n : ℕ} {R : ℕ → ℕ → Type 0} (two : 1 < n) (O : Ordered n R) where
  -- there is at most one greatest
  pub greatest_one : {i j m k : ℕ} → Greatest n R i j m → Greatest n R i j k → m ≡ k
  greatest_one {i} {j} {m} {k} a b =
      O.antisymmetric m k a.kind b.kind (b.most m a.kind a.left a.right) (a.most k b.kind b.left b.right)

  module _ {meet : ℕ → ℕ → ℕ} (G : (i j : ℕ) → i < n → j < n → Greatest n R i j (meet i j)) where
    -- where i is under j, i is the greatest under both
    lower : (i j : ℕ) → i < n → R i j → Greatest n R i j i
    lower i j hi r = record { kind = hi; left = O.reflexive i hi; right = r; most = λ k hk a b. a }

    turn : {i j m : ℕ} → Greatest n R i j m → Greatest n R j i m
    turn g = record { kind = g.kind; left = g.right; right = g.left; most = λ k hk a b. g.most k hk b a }

    group : (i j k : ℕ) → i < n → j < n → k < n → meet (meet i j) k ≡ meet i (meet j k)
    group i j k hi hj hk =
        let ij = G i j hi hj in
        let jk = G j k hj hk in
        let r = G i (meet j k) hi jk.kind in
        let t = O.transitive in
        greatest_one (G (meet i j) k ij.kind hk)
        (record {
          kind = r.kind;
          left = ij.most _ r.kind r.left (t _ _ j r.kind jk.kind hj r.right jk.left);
          right = t _ _ k r.kind jk.kind hk r.right jk.right;
          most = λ x hx a b.
              r.most x hx (t x _ i hx ij.kind hi a ij.left)
              (jk.most x hx (t x _ j hx ij.kind hj a ij.right) b);
        })

    pub greatest_lawful : Lawful n meet
    greatest_lawful =
        record {
          closed = λ i j hi hj. (G i j hi hj).kind;
          self = λ i hi. greatest_one (G i i hi hi) (lower i i hi (O.reflexive i hi));
          none = λ i hi. greatest_one (G 0 i zero hi) (lower 0 i zero (O.least i hi));
          any = λ i hi. greatest_one (G 1 i two hi) (turn (lower i 1 hi (O.most i hi)));
          swap = λ i j hi hj. greatest_one (G i j hi hj) (turn (G j i hj hi));
          group = group;
        }
      where
        zero : 0 < n
        zero = omega arith
