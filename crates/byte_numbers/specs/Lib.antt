pub mod Numbers
pub mod Signs
pub mod NumberLaws
pub mod SignLaws
