pub mod RulePacket
pub mod Reached
pub mod Bits
pub mod Marking
