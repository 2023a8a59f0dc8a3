pub mod Rooms
pub mod Scripts
