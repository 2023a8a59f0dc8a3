pub mod Tests
pub mod Descent
pub mod Rule
pub mod Bytes
pub mod Examples
