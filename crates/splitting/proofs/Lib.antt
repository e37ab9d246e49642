pub mod Keyed
pub mod Split
