-- The facts that the code's own enum stands for, whatever its joints are. No exported contract rests on these.
-- Assumes nothing.
use Rattle.std.specs.Prelude.{◌≡◌}
use Rattle.meaning.specs.declared.Fact.{Fact as CodeFact}
use Rattle.meaning.specs.declared.Fact.TheVariants.{Kind, Same, Link}
use Rattle.meaning.specs.Picture.{Fact}
use Rattle.meaning.specs.Picture.Fact.{has_kind, same, leads}

abbrev pub decoded : {J : Type 0} → CodeFact J → Fact J
decoded (Kind a s) = has_kind a s
decoded (Same a b) = same a b
decoded (Link a l c) = leads a l c

-- each joint of a fact is so
abbrev pub OnJoints : {J : Type 0} → (J → Type 0) → Fact J → Type 0
OnJoints Is (has_kind a s) = Is a
OnJoints Is (same a b) = Is a × Is b
OnJoints Is (leads a l c) = Is a × Is c

-- the same fact, its joints under names that they may have
abbrev pub Renamed : {J K : Type 0} → (J → K → Type 0) → Fact J → Fact K → Type 0
Renamed {K = K} Named (has_kind a s) g = (x : K) × Named a x × (g ≡ has_kind x s)
Renamed {K = K} Named (same a b) g = (x : K) × (y : K) × Named a x × Named b y × (g ≡ same x y)
Renamed {K = K} Named (leads a l c) g = (x : K) × (z : K) × Named a x × Named c z × (g ≡ leads x l z)
