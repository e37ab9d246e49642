pub mod Levels
pub mod Whole
pub mod Sound
