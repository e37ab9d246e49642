pub mod Tails
pub mod Regular
pub mod Levels
pub mod Edges
pub mod Facts
