pub mod Screening
pub mod Whole
pub mod Words
