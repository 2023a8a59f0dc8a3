-- The examples P1 to P3 of the house table.
-- Assumes nothing.
use mathlib.Core.Path.{◌≡◌, refl}
use Rattle.kinds.specs.Kinds.{meet_at}
use Rattle.house.specs.Meets.{house_table}

-- left and arm part: left arm
pub p1 : meet_at 33 house_table 2 9 ≡ 11
unfolding house_table
p1 = refl

-- right and hand: right hand
pub p2 : meet_at 33 house_table 3 17 ≡ 26
unfolding house_table
p2 = refl

-- left arm and thigh: none
pub p3 : meet_at 33 house_table 11 18 ≡ 0
unfolding house_table
p3 = refl
