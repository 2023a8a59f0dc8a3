pub mod Scan
pub mod OneKind
pub mod Lawfulness
pub mod Triples
pub mod LookedAt
