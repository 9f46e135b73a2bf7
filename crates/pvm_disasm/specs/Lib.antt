pub mod Units
pub mod Listing
pub mod Refusal
