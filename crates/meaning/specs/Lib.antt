pub mod Picture
pub mod Decoding
pub mod Rig
pub mod Rule
pub mod Form
pub mod Solving
pub mod Asking
