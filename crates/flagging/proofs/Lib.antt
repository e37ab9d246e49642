pub mod Cases
pub mod Level
pub mod Treat
pub mod Up
