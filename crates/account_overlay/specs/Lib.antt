pub mod Layers
pub mod Parts
pub mod Own
pub mod Others
pub mod Pairs
