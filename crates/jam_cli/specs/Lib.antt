pub mod Table
pub mod Command
pub mod Ending
pub mod Laws
pub mod Parts
