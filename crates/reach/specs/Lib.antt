pub mod Reached
pub mod Marking
