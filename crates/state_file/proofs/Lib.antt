pub mod Maps
pub mod Octets
pub mod Versions
