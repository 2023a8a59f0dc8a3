-- The facts of the code stand for different facts, and one whose joints get other names stands for the same fact under these names.
-- Assumes nothing.
use mathlib.Core.Path.{◌≡◌}
use Rattle.meaning.specs.declared.Fact.{Fact as CodeFact}
use Rattle.meaning.specs.declared.Fact.TheVariants.{Kind, Same, Link}
use Rattle.meaning.specs.Picture.{Fact, rename}
use Rattle.meaning.specs.Picture.Fact.{has_kind, same, leads}
use Rattle.meaning.specs.Decoding.{decoded, Renamed}

pub decoded_one : {J : Type 0} (f g : CodeFact J) → decoded f ≡ decoded g → f ≡ g
decoded_one (Kind a b) (Kind x y) e = cc
decoded_one (Kind a b) (Same x y) e = cc
decoded_one (Kind a b) (Link x y z) e = cc
decoded_one (Same a b) (Kind x y) e = cc
decoded_one (Same a b) (Same x y) e = cc
decoded_one (Same a b) (Link x y z) e = cc
decoded_one (Link a b c) (Kind x y) e = cc
decoded_one (Link a b c) (Same x y) e = cc
decoded_one (Link a b c) (Link x y z) e = cc

-- where a joint may have no name but its own one, it has that
pub renamed_by :
    {J K : Type 0} (Named : J → K → Type 0) (name : J → K) → ((a : J) (x : K) → Named a x → x ≡ name a) →
    (f : Fact J) {g : Fact K} → Renamed Named f g → g ≡ rename name f
renamed_by Named name own (has_kind a s) r = let e = own a r.0 r.1 in cc
renamed_by Named name own (same a b) r = let e = own a r.0 r.2 in let h = own b r.1 r.3 in cc
renamed_by Named name own (leads a l c) r = let e = own a r.0 r.2 in let h = own c r.1 r.3 in cc

-- where no joint has two names, it is one fact
pub map_one :
    {J K : Type 0} (Named : J → K → Type 0) → ((a : J) (x y : K) → Named a x → Named a y → x ≡ y) →
    (f : Fact J) {g h : CodeFact K} → Renamed Named f (decoded g) → Renamed Named f (decoded h) → g ≡ h
map_one Named one (has_kind a s) {g} {h} p q = let e = one a p.0 q.0 p.1 q.1 in decoded_one g h cc
map_one Named one (same a b) {g} {h} p q = let e = one a p.0 q.0 p.2 q.2 in let i = one b p.1 q.1 p.3 q.3 in decoded_one g h cc
map_one Named one (leads a l c) {g} {h} p q = let e = one a p.0 q.0 p.2 q.2 in let i = one c p.1 q.1 p.3 q.3 in decoded_one g h cc
