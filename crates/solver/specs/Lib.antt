pub mod Unpacked
pub mod Steps
