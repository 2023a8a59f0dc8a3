pub mod Fits
pub mod Apart
