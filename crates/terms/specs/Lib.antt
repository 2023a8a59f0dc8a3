pub mod Term
pub mod Language
pub mod Facts
pub mod Machine
