pub mod PageRights
pub mod RunList
pub mod RangeLaws
