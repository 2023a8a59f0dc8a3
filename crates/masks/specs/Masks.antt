-- What the fast test of a table looks at: of one kind, of two kinds with their masks, and of the masks alone, a number for each kind. What the
-- test tells of the table says nothing of masks.
-- Assumes nothing.
use Rattle.std.specs.Prelude.{◌≡◌, List, ℕ, ◌+◌, ◌*◌, ◌/◌, ◌%◌, ◌<◌, get_or}
use Rattle.std.specs.Int.Bits.{bit_and}
use Rattle.std.specs.Int.Count.{ones, count_trailing_zeros}

-- the laws of i alone
pub record Single (meet : ℕ → ℕ → ℕ) (i : ℕ) : Type 0 where
  pub self : meet i i ≡ i
  pub none : meet 0 i ≡ 0
  pub any : meet 1 i ≡ i

-- i and j commute, and the mask of meet(i,j) is the `&` of the masks of i and j
pub record Embedded (meet : ℕ → ℕ → ℕ) (masks : List ℕ) (i j : ℕ) : Type 0 where
  pub swap : meet i j ≡ meet j i
  pub common : get_or masks (meet i j) 0 ≡ bit_and (get_or masks i 0) (get_or masks j 0)

-- two kinds have one mask only if they are one kind
abbrev pub Apart : ℕ → List ℕ → Type 0
Apart n masks = (i j : ℕ) → i < n → j < n → get_or masks i 0 ≡ get_or masks j 0 → i ≡ j

-- the kind read off a mask: the lowest bit that it shares with those of its rank, its place crosswise
unfoldable pub crosswise : ℕ → ℕ
crosswise k = 8 * (k % 8) + k / 8

unfoldable pub kind_of : List ℕ → ℕ → ℕ
kind_of ranks mask = crosswise (count_trailing_zeros 64 (bit_and (get_or ranks (ones mask) 0) mask))
