pub mod Parents
pub mod Meets
pub mod Words
