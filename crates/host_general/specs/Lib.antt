pub mod Inputs
pub mod Deposits
pub mod GeneralCalls
