pub mod Pieces
pub mod Digits
pub mod Pushed
pub mod Places
pub mod Opcodes
pub mod Surveys
pub mod Sizes
