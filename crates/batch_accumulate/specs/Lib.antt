pub mod Deliveries
pub mod Batch
