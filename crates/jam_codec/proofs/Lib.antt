pub mod Spelled
pub mod SpareBits
