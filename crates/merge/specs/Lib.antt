pub mod Merge
pub mod Load
pub mod Sweep
pub mod Steps
pub mod Merges
pub mod Stores
