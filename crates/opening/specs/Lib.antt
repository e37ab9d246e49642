pub mod Opened
pub mod Accepted
