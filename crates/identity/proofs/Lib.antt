pub mod Flags
pub mod Unmarked
