pub mod Front
pub mod Noting
pub mod Fresh
pub mod Family
pub mod Levels
pub mod Turn
