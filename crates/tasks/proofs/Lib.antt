pub mod Edges
pub mod Shapes
pub mod Holders
pub mod Sizes
pub mod Columns
pub mod Accepted
