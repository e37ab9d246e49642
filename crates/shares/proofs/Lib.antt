pub mod Once
pub mod Entries
pub mod Present
pub mod Share
