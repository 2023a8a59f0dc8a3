pub mod Order
pub mod Offset
