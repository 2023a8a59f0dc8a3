-- A block as opening writes it: its table, that it is well formed, and that it has taken no fact. The session's own bytes of it are those of
-- crate `joints`, whatever stands behind them.
-- Assumes nothing.
use mathlib.Core.Path.{◌≡◌, ap, ◌∙◌}
use mathlib.Core.List.{List, []}
use Prim.Native.Nat.{ℕ, ◌-◌, ◌*◌, ◌≤◌}
use native.Mathlib.Omega.{arith}
use lib.ListN.{length, get_or, take, replicate, length-append, length-replicate}
use lib.Seq.{take_at}
use Rattle.std.specs.Prelude.{Ok}
use Rattle.kinds.proofs.Offset.{square_le}
use Rattle.tables.specs.Check.{table_reply}
use Rattle.kinds.specs.Sizes.{Sized}
use Rattle.joints.specs.Layout.{session_size, block_form, taken, class_count}
use Rattle.joints.proofs.Parts.{byte_from}
use Rattle.joints.proofs.Fresh.{Blank, blank_well, blank_facts, blank_classes, fresh_blank, fresh_size, fresh_behind, zeros_behind}
use Rattle.blocks.specs.Layout.{table_room, table_of, room_of, room_with, fresh_block}
use Rattle.blocks.proofs.Shape.{GoodBlock}

module _ (n v : ℕ) (table : List ℕ) (z : Sized n table) (high : v ≤ 64) where
  room_length : length (room_with table) ≡ table_room
  room_length = simp (length-append, length-replicate) (omega (arith, z.size, square_le z.high))

  room_fresh : room_of (fresh_block n v table) ≡ room_with table
  room_fresh = fresh_behind n v high (room_with table)

  blank : Blank v (block_form (fresh_block n v table))
  blank = fresh_blank n v high (room_with table)

  pub fresh_table : table_of (fresh_block n v table) ≡ table
  fresh_table = ap (take (n * n)) room_fresh ∙ take_at table (replicate (table_room - length table) 0) (n * n) z.size

  pub fresh_good : 1 ≤ v → table_reply n table ≡ Ok 0 → GoodBlock (fresh_block n v table)
  fresh_good low passes =
      record {
        size = omega (arith, fresh_size n v high (room_with table), room_length);
        well =
            record {
              n_low = z.low;
              n_high = z.high;
              v_low = low;
              v_high = high;
              passes = rw fresh_table passes;
              well = blank_well blank z.low;
              zeros = λ i h.
                  byte_from session_size (fresh_block n v table) i (omega arith)
                  ∙ ap (λ (d : List ℕ). get_or d (i - session_size) 0) room_fresh
                  ∙ zeros_behind table (table_room - length table) (i - session_size) (omega (arith, z.size));
            };
      }

  pub fresh_facts : taken (fresh_block n v table) ≡ []
  fresh_facts = blank_facts blank

  pub fresh_classes : class_count (fresh_block n v table) ≡ v
  fresh_classes = blank_classes blank
