pub mod Own
pub mod Listed
