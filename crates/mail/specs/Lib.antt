pub mod Kind
pub mod Ranges
