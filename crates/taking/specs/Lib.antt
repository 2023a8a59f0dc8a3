pub mod Take
pub mod Solve
