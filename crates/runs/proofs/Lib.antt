pub mod Loops
pub mod Each
pub mod Zeros
pub mod Bits
