pub mod Rows
pub mod Settling
pub mod Corners
pub mod Loading
pub mod Answers
pub mod Laws
