-- The house kinds with their direct parents, and when one kind is under another by them.
-- Assumes nothing.
use mathlib.Core.List.{List, [], ◌∷◌, Memᴰ}
use Rattle.std.specs.Prelude.{ℕ, get_or}

-- row k has the direct parents of kind k
abbrev pub parents : List (List ℕ)
parents =
    -- 0 none
    ([])
    -- 1 any
    ∷ ([])
    -- 2 left
    ∷ (1 ∷ [])
    -- 3 right
    ∷ (1 ∷ [])
    -- 4 centre
    ∷ (1 ∷ [])
    -- 5 spine
    ∷ (4 ∷ [])
    -- 6 neck
    ∷ (4 ∷ [])
    -- 7 head
    ∷ (4 ∷ [])
    -- 8 hips
    ∷ (4 ∷ [])
    -- 9 arm part
    ∷ (1 ∷ [])
    -- 10 leg part
    ∷ (1 ∷ [])
    -- 11 left arm
    ∷ (2 ∷ 9 ∷ [])
    -- 12 right arm
    ∷ (3 ∷ 9 ∷ [])
    -- 13 left leg
    ∷ (2 ∷ 10 ∷ [])
    -- 14 right leg
    ∷ (3 ∷ 10 ∷ [])
    -- 15 upper arm
    ∷ (9 ∷ [])
    -- 16 forearm
    ∷ (9 ∷ [])
    -- 17 hand
    ∷ (9 ∷ [])
    -- 18 thigh
    ∷ (10 ∷ [])
    -- 19 shin
    ∷ (10 ∷ [])
    -- 20 foot
    ∷ (10 ∷ [])
    -- 21 left upper arm
    ∷ (11 ∷ 15 ∷ [])
    -- 22 right upper arm
    ∷ (12 ∷ 15 ∷ [])
    -- 23 left forearm
    ∷ (11 ∷ 16 ∷ [])
    -- 24 right forearm
    ∷ (12 ∷ 16 ∷ [])
    -- 25 left hand
    ∷ (11 ∷ 17 ∷ [])
    -- 26 right hand
    ∷ (12 ∷ 17 ∷ [])
    -- 27 left thigh
    ∷ (13 ∷ 18 ∷ [])
    -- 28 right thigh
    ∷ (14 ∷ 18 ∷ [])
    -- 29 left shin
    ∷ (13 ∷ 19 ∷ [])
    -- 30 right shin
    ∷ (14 ∷ 19 ∷ [])
    -- 31 left foot
    ∷ (13 ∷ 20 ∷ [])
    -- 32 right foot
    ∷ (14 ∷ 20 ∷ [])
    ∷ []

-- the first or the second parent of a kind, 0 where there is none
abbrev pub parent_at : ℕ → ℕ → ℕ
parent_at kind which = get_or (get_or parents kind []) which 0

-- kind 0 lies under all; any other kind is under itself, and under all that one of its parents is under
pub data UnderByParents : ℕ → ℕ → Type 0 where
  none_under : {t : ℕ} → UnderByParents 0 t
  itself : {s : ℕ} → UnderByParents s s
  by_parent : {s p t : ℕ} → Memᴰ p (get_or parents s []) → UnderByParents p t → UnderByParents s t
