pub mod CostLists
