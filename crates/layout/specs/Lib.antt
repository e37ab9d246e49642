pub mod Calls
pub mod Few
pub mod Samples
