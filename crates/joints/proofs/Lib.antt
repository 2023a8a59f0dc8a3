pub mod Parts
pub mod Written
pub mod Fresh
