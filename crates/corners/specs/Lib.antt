pub mod Ends
pub mod Sums
pub mod Sizes
pub mod Weighted
pub mod Tables
