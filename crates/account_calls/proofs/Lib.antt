pub mod OwnHistories
pub mod NewAccounts
