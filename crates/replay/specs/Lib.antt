pub mod Run
pub mod Scan
pub mod Going
pub mod Flat
pub mod Accepted
pub mod Sound
pub mod Rest
pub mod Marking
