pub mod Stages
pub mod Rows
pub mod Says
