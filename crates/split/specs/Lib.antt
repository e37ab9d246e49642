pub mod Columns
pub mod Split
pub mod Messages
pub mod Samples
pub mod Stored
