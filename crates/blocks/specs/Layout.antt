-- 'Session block', from 1,154 on: behind the session's own bytes is the room of the kind table. The rig that a block rests on, and a fresh
-- block.
-- Assumes nothing.
use Rattle.std.specs.Prelude.{List, ◌++◌, ℕ, ◌-◌, ◌*◌, length, take, drop, replicate}
use Rattle.meaning.specs.Rig.{Rig}
use Rattle.meaning.specs.Rig.Profile.{every}
use Rattle.joints.specs.Layout.{session_size, kinds_of, joints_of}
use Rattle.joints.specs.Fresh.{fresh_session}

abbrev pub table_room : ℕ
table_room = 4096

abbrev pub block_size : ℕ
block_size = 5250

-- from 1,154 the room of the kind table, of which the first n × n bytes are the table
abbrev pub room_of : List ℕ → List ℕ
room_of b = drop session_size b

abbrev pub table_of : List ℕ → List ℕ
table_of b = take (kinds_of b * kinds_of b) (room_of b)

-- what the calls on a block rest on, beside the facts taken
abbrev pub rig_of : List ℕ → Rig
rig_of b = record { kinds = kinds_of b; table = table_of b; joints = joints_of b; profile = every }

-- the room of a table: the table, unused bytes zero
abbrev pub room_with : List ℕ → List ℕ
room_with table = table ++ replicate (table_room - length table) 0

-- a block as opening writes it
abbrev pub fresh_block : ℕ → ℕ → List ℕ → List ℕ
fresh_block n v table = fresh_session n v ++ room_with table
