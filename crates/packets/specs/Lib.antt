pub mod Packet
pub mod Facts
pub mod FactsPacket
