pub mod Standard
pub mod StandardLaws
pub mod Areas
pub mod FirstState
pub mod Refusal
pub mod Read
