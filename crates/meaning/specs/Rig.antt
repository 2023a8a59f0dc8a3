-- What a call rests on, beside the facts themselves: the kinds with their table, the joints, and which pictures count. Clash, meaning and
-- verdicts are stated over it, and bytes stand for it.
-- Assumes nothing.
use Rattle.std.specs.Prelude.{◌↔◌, List, ◌++◌, ℕ, ◌+◌, ◌<◌, length, take}
use Rattle.kinds.specs.Kinds.{meet_at}
use Rattle.meaning.specs.Picture.{Picture, Placing, Fact, All}

-- which pictures count. So far all do
pub data Profile : Type 0 where
  every : Profile

pub record Rig : Type 0 where
  -- n, and the n × n bytes of the kind table
  pub kinds : ℕ
  pub table : List ℕ
  -- V
  pub joints : ℕ
  pub profile : Profile

abbrev pub meet_of : Rig → ℕ → ℕ → ℕ
meet_of R = meet_at R.kinds R.table

abbrev pub Counts : Profile → {n : ℕ} → Picture n → Type 0
Counts every P = Unit {0}

module _ (R : Rig) {J : Type 0} where
  -- no picture and placing satisfy the facts
  abbrev pub NoPicture : List (Fact J) → Type 0
  NoPicture fs = (P : Picture R.kinds) (σ : J → ℕ) → Counts R.profile P → Placing P σ → All (meet_of R) P σ fs → ⊥

  -- a picture and a placing that satisfy the facts
  pub record SomePicture (fs : List (Fact J)) : Type 0 where
    pub picture : Picture R.kinds
    pub placing : J → ℕ
    pub counts : Counts R.profile picture
    pub placed : Placing picture placing
    pub holds : All (meet_of R) picture placing fs

  -- The i-th of the facts fs (from 0) is the first such that the facts ts and those of fs up to and including it have no picture: ts and those
  -- before it have one.
  pub record FirstClash (ts fs : List (Fact J)) (i : ℕ) : Type 0 where
    pub among : i < length fs
    pub before : SomePicture (ts ++ take i fs)
    pub none : NoPicture (ts ++ take (i + 1) fs)

  -- exactly the same pictures and placings satisfy both
  abbrev pub SameMeaning : List (Fact J) → List (Fact J) → Type 0
  SameMeaning fs gs =
      (P : Picture R.kinds) (σ : J → ℕ) → Counts R.profile P → Placing P σ → All (meet_of R) P σ fs ↔ All (meet_of R) P σ gs
