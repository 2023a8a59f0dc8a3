-- The first fact that clashes. There is one at most; with it all the facts have no picture; and as more is taken it is never a later one, since
-- what has a picture later has had it before.
-- Assumes nothing.
use mathlib.Core.Path.{◌≡◌}
use mathlib.Core.Logic.{by_cases}
use mathlib.Core.List.{List, [], ◌∷◌, ◌++◌}
use Prim.Native.Nat.{ℕ, zero, suc, ◌+◌, ◌≤◌}
use native.Mathlib.Omega.{arith}
use native.Mathlib.Decide.{dec_lt}
use native.Mathlib.Nat.{not-suc-le-zero, le_of_suc-le-suc}
use lib.ListN.{take, drop, take-append-drop}
use Rattle.meaning.specs.Picture.{Picture, Fact, All}
use Rattle.meaning.specs.Rig.{Rig, meet_of, NoPicture, SomePicture, FirstClash}
use Rattle.meaning.proofs.Facts.{all_append, all_left, all_right}
use Rattle.meaning.proofs.Later.{Follows, follows_append, follows_then, no_picture_later}

module _ {n : ℕ} {J : Type 0} (meet : ℕ → ℕ → ℕ) (P : Picture n) (σ : J → ℕ) where
  -- the first k of a list of facts, and of the first j
  all_first : (k : ℕ) (fs : List (Fact J)) → All meet P σ fs → All meet P σ (take k fs)
  all_first k fs a = all_left meet P σ (take k fs) (drop k fs) (rw (take-append-drop k fs) a)

  all_fewer : (k j : ℕ) → k ≤ j → (fs : List (Fact J)) → All meet P σ (take j fs) → All meet P σ (take k fs)
  all_fewer zero j h fs a = tt
  all_fewer (suc k) zero h fs a = absurd (not-suc-le-zero h)
  all_fewer (suc k) (suc j) h [] a = tt
  all_fewer (suc k) (suc j) h (f ∷ fs) a = (a.0, all_fewer k j (le_of_suc-le-suc h) fs a.1)

module _ (R : Rig) {J : Type 0} where
  pub picture_not_none : {fs : List (Fact J)} → SomePicture R fs → NoPicture R fs → ⊥
  picture_not_none s c = c s.picture s.placing s.counts s.placed s.holds

  -- facts that follow from some with a picture have one
  picture_before : (gs fs : List (Fact J)) → Follows R gs fs → SomePicture R gs → SomePicture R fs
  picture_before gs fs e s =
      record {
        picture = s.picture;
        placing = s.placing;
        counts = s.counts;
        placed = s.placed;
        holds = e s.picture s.placing s.counts s.placed s.holds;
      }

  -- where more is taken, fewer of the facts are needed for a clash
  pub clash_not_later :
      (gs ts fs : List (Fact J)) → Follows R gs ts → {i j : ℕ} → FirstClash R ts fs i → FirstClash R gs fs j → j ≤ i
  clash_not_later gs ts fs e {i} {j} a b =
      by_cases (dec_lt i j)
      (λ h.
      let fewer : Follows R (ts ++ take j fs) (ts ++ take (i + 1) fs) =
      λ P σ c placed all.
      all_append (meet_of R) P σ ts (take (i + 1) fs) (all_left (meet_of R) P σ ts (take j fs) all)
      (all_fewer (meet_of R) P σ (i + 1) j (omega arith) fs (all_right (meet_of R) P σ ts (take j fs) all)) in
      let more = follows_then R (gs ++ take j fs) (ts ++ take j fs) (ts ++ take (i + 1) fs) (follows_append R gs ts (take j fs) e) fewer in
      absurd (picture_not_none (picture_before (gs ++ take j fs) (ts ++ take (i + 1) fs) more b.before) a.none))
      (λ d. omega arith)

  pub clash_one : (ts fs : List (Fact J)) {i j : ℕ} → FirstClash R ts fs i → FirstClash R ts fs j → i ≡ j
  clash_one ts fs a b =
      omega (arith, clash_not_later ts ts fs (λ P σ c placed all. all) a b, clash_not_later ts ts fs (λ P σ c placed all. all) b a)

  pub clash_no_picture : (ts fs : List (Fact J)) {i : ℕ} → FirstClash R ts fs i → NoPicture R (ts ++ fs)
  clash_no_picture ts fs {i} a =
      no_picture_later R (ts ++ fs) (ts ++ take (i + 1) fs)
      (λ P σ c placed all.
      all_append (meet_of R) P σ ts (take (i + 1) fs) (all_left (meet_of R) P σ ts fs all)
      (all_first (meet_of R) P σ (i + 1) fs (all_right (meet_of R) P σ ts fs all)))
      a.none
