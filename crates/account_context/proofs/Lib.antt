pub mod Differences
pub mod HalfPairs
pub mod OwnAccounts
pub mod OwnFootprints
pub mod Restores
