pub mod Tree
pub mod WriteTerm
pub mod Visiting
pub mod Rising
