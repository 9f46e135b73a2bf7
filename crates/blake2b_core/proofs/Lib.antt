pub mod KnownDigests
pub mod Turns
pub mod BlockWords
pub mod Chains
pub mod Standing
pub mod Pieces
