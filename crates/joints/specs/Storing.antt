-- A block with another form in it: what storing does. No exported contract rests on this.
-- Assumes nothing.
use Rattle.std.specs.Prelude.{List, ◌++◌, ℕ, take, drop}
use Rattle.joints.specs.Layout.{session_size}

-- the block with the first 64 classes, kinds and rows of these lists in it, and all else as it was
abbrev pub with_form : List ℕ → List ℕ → List ℕ → List ℕ → List ℕ
with_form b classes kinds rows = take 2 b ++ (take 64 classes ++ (take 64 kinds ++ (take 1024 rows ++ drop session_size b)))
