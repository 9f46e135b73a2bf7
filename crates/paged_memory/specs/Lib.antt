pub mod PageMap
pub mod Codes
pub mod Seen
