pub mod Parents
pub mod Scan
