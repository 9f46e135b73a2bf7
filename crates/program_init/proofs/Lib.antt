pub mod AreaRights
pub mod OuterFields
pub mod Programs
