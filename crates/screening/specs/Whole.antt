-- What the search for the first bad fact asks of a packet: that its facts fill it. No exported contract rests on this.
-- Assumes nothing.
use Rattle.std.specs.Prelude.{◌≡◌, List, ℕ, ◌≤◌, length}
use Rattle.packets.specs.Packet.{fact_at, fact_count}

-- the facts reach to the packet's last byte
pub record Whole (p : List ℕ) : Type 0 where
  pub header : 6 ≤ length p
  pub ends : fact_at p (fact_count p) ≡ length p
  pub few : fact_count p ≤ 1088
