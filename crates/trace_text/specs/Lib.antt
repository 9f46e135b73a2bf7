pub mod Transcript
pub mod Traces
