pub mod Result
pub mod Run
pub mod Totals
