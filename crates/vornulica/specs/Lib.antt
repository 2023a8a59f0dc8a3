pub mod House
pub mod Host
