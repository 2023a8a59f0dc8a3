pub mod Facts
pub mod FactsPacket
