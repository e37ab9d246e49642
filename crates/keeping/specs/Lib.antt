pub mod Ranges
pub mod Born
pub mod Marked
pub mod Whole
