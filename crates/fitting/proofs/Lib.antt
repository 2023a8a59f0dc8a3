pub mod Tests
pub mod Checks
pub mod Shape
pub mod Apart
