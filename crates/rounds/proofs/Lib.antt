pub mod Enough
pub mod Rounded
pub mod Sums
pub mod Totals
