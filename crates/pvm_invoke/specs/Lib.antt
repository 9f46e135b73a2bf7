pub mod Held
pub mod HostCall
pub mod Turns
pub mod Outcome
pub mod Invocation
pub mod Coded
