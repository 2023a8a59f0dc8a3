pub mod Layout
pub mod WellFormed
