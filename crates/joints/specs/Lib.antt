pub mod Layout
pub mod Fresh
pub mod Storing
