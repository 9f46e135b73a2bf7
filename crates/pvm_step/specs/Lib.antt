pub mod Effect
pub mod History
pub mod Machine
pub mod Named
pub mod Watched
