pub mod Program
pub mod Kept
pub mod Parts
pub mod Refusal
pub mod Fetched
pub mod BlobLaws
