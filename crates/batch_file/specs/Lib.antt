pub mod Limits
pub mod BatchFile
pub mod BatchLaws
