pub mod Zeros
pub mod Writing
pub mod Bytes
pub mod Pieces
