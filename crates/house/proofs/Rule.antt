-- Every entry of the house table is the greatest kind under both by the parent list, by one test over its 1,089 entries; so the table is
-- lawful, it passes the check, and a kind is under another by the table exactly when it is by the parents.
-- Assumes nothing.
use mathlib.Core.Path.{◌≡◌, subst, sym, ap, ap₂, ◌∙◌}
use mathlib.Core.Logic.{◌↔◌}
use mathlib.Core.Bool.{Bool, ◌&&◌}
use mathlib.Core.List.{List, [], ◌∷◌, map}
use Prim.Native.Nat.{ℕ, ◌+◌, ◌*◌, ◌/◌, ◌%◌, ◌<◌}
use native.Mathlib.Omega.{arith}
use lib.Dec.{T, eqb, eqb→eq, ltb, ltb→lt}
use lib.ListN.{get_or, length}
use lib.Arith.{digits_div, digits_mod, digits_lt}
use Rattle.std.specs.Prelude.{Ok}
use Rattle.kinds.specs.Kinds.{Under, meet_at}
use Rattle.kinds.specs.Laws.{Lawful, Greatest}
use Rattle.kinds.specs.Sizes.{Sized}
use Rattle.kinds.proofs.Order.{greatest_lawful, greatest_one}
use Rattle.tables.specs.Check.{table_reply}
use Rattle.tables.proofs.Lawfulness.{lawful_passes}
use Rattle.house.specs.Parents.{parents, parent_at, UnderByParents}
use Rattle.house.specs.Parents.UnderByParents.{itself}
use Rattle.house.specs.Meets.{house_table}
use Rattle.house.proofs.Tests.{and_left, and_right, implies, apply, all_below, below, at}
use Rattle.house.proofs.Descent.{under?, yes_under, under_yes, house_ordered}

-- m is the greatest kind under both i and j, decided
abbrev greatest? : ℕ → ℕ → ℕ → Bool
greatest? i j m =
    ltb m 33 && (under? m i && (under? m j && all_below 33 (λ k. implies (under? k i) (implies (under? k j) (under? k m)))))

greatest : (i j m : ℕ) → T (greatest? i j m) → Greatest 33 UnderByParents i j m
greatest i j m t =
    let t₁ = and_right (ltb m 33) _ t in
    let t₂ = and_right (under? m i) _ t₁ in
    let t₃ = and_right (under? m j) _ t₂ in
    record {
      kind = ltb→lt m 33 (and_left (ltb m 33) _ t);
      left = yes_under m i (and_left (under? m i) _ t₁);
      right = yes_under m j (and_left (under? m j) _ t₂);
      most = λ k h a b.
          yes_under k m
          (apply (under? k j) (under? k m)
          (apply (under? k i) _ (below 33 (λ x. implies (under? x i) (implies (under? x j) (under? x m))) t₃ k h) (under_yes k i a))
          (under_yes k j b));
    }

-- the entry at an offset, by the offset's row and column
unfoldable entry? : ℕ → ℕ → Bool
entry? offset m = greatest? (offset / 33) (offset % 33) m

every_entry : (offset : ℕ) → offset < 1089 → T (entry? offset (get_or house_table offset 0))
unfolding entry? house_table
every_entry offset h = at entry? house_table tt offset h

pub house_rule : (i j : ℕ) → i < 33 → j < 33 → Greatest 33 UnderByParents i j (meet_at 33 house_table i j)
unfolding entry?
house_rule i j hi hj =
    let m = meet_at 33 house_table i j in
    greatest i j m
    (subst (λ (x : ℕ). T (greatest? x j m)) (digits_div i hj)
    (subst (λ (y : ℕ). T (greatest? ((i * 33 + j) / 33) y m)) (digits_mod i hj) (every_entry (i * 33 + j) (digits_lt hi hj))))

pub house_lawful : Lawful 33 (meet_at 33 house_table)
house_lawful = greatest_lawful (omega arith) house_ordered house_rule

pub house_passes : table_reply 33 house_table ≡ Ok 0
house_passes = lawful_passes 33 house_table (omega arith) house_lawful

-- a table of 33 kinds has as many bytes as the house table, and passes if it is that one
module _ {n : ℕ} {table : List ℕ} (e : n ≡ 33) where
  pub house_size : Sized n table → length table ≡ 1089
  house_size sized = sized.size ∙ ap (λ (k : ℕ). k * k) e

  pub house_told : table ≡ house_table → Ok 0 ≡ table_reply n table
  house_told same = sym (ap₂ table_reply e same ∙ house_passes)

pub house_under : (s t : ℕ) → s < 33 → t < 33 → Under (meet_at 33 house_table) s t ↔ UnderByParents s t
house_under s t hs ht = (
  λ e. subst (λ (x : ℕ). UnderByParents x t) e (house_rule s t hs ht).right,
  λ u. greatest_one (omega arith) house_ordered (house_rule s t hs ht) (record { kind = hs; left = itself; right = u; most = λ k h a b. a }),
)

-- the parents as two numbers a row, 0 where there is none: what the code's constant holds
abbrev padded : List ℕ → List ℕ
padded [] = 0 ∷ 0 ∷ []
padded (x ∷ []) = x ∷ 0 ∷ []
padded (x ∷ y ∷ more) = x ∷ y ∷ []

pub padded_parent : (kind which : ℕ) → kind < 33 → which < 2 → get_or (get_or (map padded parents) kind []) which 0 ≡ parent_at kind which
padded_parent kind which hk hw =
    eqb→eq _ _
    (below 2 (λ y. eqb (get_or (get_or (map padded parents) kind []) y 0) (parent_at kind y))
    (below 33 (λ x. all_below 2 (λ y. eqb (get_or (get_or (map padded parents) x []) y 0) (parent_at x y))) tt kind hk) which hw)
