pub mod Chains
pub mod Seen
pub mod Embedding
