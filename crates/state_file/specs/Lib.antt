pub mod StateFile
pub mod StateLaws
