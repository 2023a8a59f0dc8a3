pub mod Kinds
pub mod Laws
pub mod Sizes
pub mod Tables
