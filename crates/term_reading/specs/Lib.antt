pub mod Range
pub mod ReadTerm
pub mod Reading
