pub mod Starts
pub mod KeptLaws
pub mod KeptPlaces
pub mod Spelled
pub mod Windows
pub mod Marks
