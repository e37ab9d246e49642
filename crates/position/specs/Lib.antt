pub mod Position
pub mod Exact
