pub mod Numbers
pub mod Running
pub mod Language
pub mod OneReading
