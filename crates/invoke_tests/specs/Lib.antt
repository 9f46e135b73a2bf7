pub mod Teller
pub mod TellerLaws
