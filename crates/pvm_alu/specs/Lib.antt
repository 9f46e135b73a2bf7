pub mod Words
pub mod Alu
