-- What stays as facts are added, in any order and with repeats: a clash, and the verdicts "applies" and "ruled out". Each quantifies over
-- the models of a list of facts, and a list from which another follows has no more models than that one.
-- Assumes nothing.
use mathlib.Core.Path.{refl}
use mathlib.Core.List.{List, [], ◌∷◌, ◌++◌, Memᴰ}
use Prim.Native.Nat.{ℕ}
use Rattle.meaning.specs.declared.RigJoint.{RigJoint}
use Rattle.meaning.specs.Picture.{Picture, Placing, Fact, Holds, All}
use Rattle.meaning.specs.Rig.{Rig, meet_of, Counts, NoPicture, SameMeaning}
use Rattle.meaning.specs.Rule.{Rule, Applies, RuledOut}
use Rattle.meaning.proofs.Facts.{all_append, all_left, all_right, all_member}

-- facts of which each holds all hold
pub each_holds :
    {n : ℕ} {J : Type 0} (meet : ℕ → ℕ → ℕ) (P : Picture n) (σ : J → ℕ) (fs : List (Fact J)) →
    ((f : Fact J) → Memᴰ f fs → Holds meet P σ f) → All meet P σ fs
each_holds meet P σ [] h = tt
each_holds meet P σ (f ∷ fs) h = (h f (Memᴰ.head refl), each_holds meet P σ fs (λ g m. h g (Memᴰ.tail m)))

module _ (R : Rig) {J : Type 0} where
  -- the facts fs follow from gs: every model of gs is one of fs
  abbrev pub Follows : List (Fact J) → List (Fact J) → Type 0
  Follows gs fs = (P : Picture R.kinds) (σ : J → ℕ) → Counts R.profile P → Placing P σ → All (meet_of R) P σ gs → All (meet_of R) P σ fs

  pub more_follows : (fs hs : List (Fact J)) → Follows (fs ++ hs) fs
  more_follows fs hs P σ c placed a = all_left (meet_of R) P σ fs hs a

  -- what means fs with hs besides: the taken facts after a packet
  pub meaning_follows : (gs fs hs : List (Fact J)) → SameMeaning R gs (fs ++ hs) → Follows gs fs
  meaning_follows gs fs hs e P σ c placed a = all_left (meet_of R) P σ fs hs ((e P σ c placed).0 a)

  -- hs besides on both sides: the same packet, later
  pub follows_append : (gs fs hs : List (Fact J)) → Follows gs fs → Follows (gs ++ hs) (fs ++ hs)
  follows_append gs fs hs e P σ c placed a =
      all_append (meet_of R) P σ fs hs (e P σ c placed (all_left (meet_of R) P σ gs hs a)) (all_right (meet_of R) P σ gs hs a)

  pub follows_then : (gs fs hs : List (Fact J)) → Follows gs fs → Follows fs hs → Follows gs hs
  follows_then gs fs hs d e P σ c placed a = e P σ c placed (d P σ c placed a)

  -- facts that are all among gs follow from gs, whatever their order and repeats
  pub members_follow : (gs fs : List (Fact J)) → ((f : Fact J) → Memᴰ f fs → Memᴰ f gs) → Follows gs fs
  members_follow gs fs e P σ c placed a = each_holds (meet_of R) P σ fs (λ f m. all_member (meet_of R) P σ (e f m) a)

  pub no_picture_later : (gs fs : List (Fact J)) → Follows gs fs → NoPicture R fs → NoPicture R gs
  no_picture_later gs fs e f P σ c placed a = f P σ c placed (e P σ c placed a)

module _ (R : Rig) (gs fs : List (Fact RigJoint)) (e : Follows R gs fs) (r : Rule) where
  pub applies_later : Applies R fs r → Applies R gs r
  applies_later f P σ c placed a = f P σ c placed (e P σ c placed a)

  pub ruled_out_later : RuledOut R fs r → RuledOut R gs r
  ruled_out_later f P σ c placed a = f P σ c placed (e P σ c placed a)
