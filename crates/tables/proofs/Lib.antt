pub mod CoarseRows
pub mod Turns
