pub mod Merge
pub mod Complete
pub mod All
pub mod Limits
pub mod Totals
pub mod Covered
pub mod Result
pub mod Run
