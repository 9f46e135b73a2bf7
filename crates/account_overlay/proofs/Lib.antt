pub mod Added
pub mod Exchanges
pub mod Listed
pub mod Overlaid
pub mod Overs
pub mod Places
