pub mod Digits
pub mod Text
pub mod Fields
pub mod Levels
