pub mod Written
pub mod Rows
pub mod Places
pub mod Parts
pub mod Points
pub mod Level
