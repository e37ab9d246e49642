pub mod Flags
pub mod Old
pub mod Writes
