-- What the theorems ask of a rig: a lawful table of two kinds at least, and from 1 to 64 joints. Every picture counts.
-- Assumes nothing.
use Prim.Native.Nat.{ℕ, ◌<◌, ◌≤◌}
use Rattle.kinds.specs.Laws.{Lawful}
use Rattle.meaning.specs.Picture.{Picture}
use Rattle.meaning.specs.Rig.{Rig, Profile, meet_of, Counts}
use Rattle.meaning.specs.Rig.Profile.{every}

pub record LawfulRig (R : Rig) : Type 0 where
  pub lawful : Lawful R.kinds (meet_of R)
  pub two : 1 < R.kinds
  pub some : 0 < R.joints
  pub few : R.joints ≤ 64

pub counts_every : (x : Profile) {n : ℕ} (P : Picture n) → Counts x P
counts_every every P = tt
