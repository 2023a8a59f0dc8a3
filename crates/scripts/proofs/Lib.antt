pub mod Letters
pub mod Parts
