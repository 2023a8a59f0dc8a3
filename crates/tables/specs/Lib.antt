pub mod Check
pub mod Triples
