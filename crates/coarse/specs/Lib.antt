pub mod Cells
pub mod Volume
pub mod Tally
