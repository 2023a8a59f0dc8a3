pub mod Taking
pub mod Solution
pub mod OneTake
