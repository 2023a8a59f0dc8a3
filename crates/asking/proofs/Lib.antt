pub mod Asking
pub mod OneAsk
