pub mod Schedule
pub mod CostLaws
