pub mod Screening
pub mod WellFormed
pub mod Converse
pub mod Written
pub mod Clear
