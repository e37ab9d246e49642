pub mod Again
pub mod Flags
pub mod Unmarked
