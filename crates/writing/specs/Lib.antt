pub mod Keeps
pub mod Wrote
pub mod Held
pub mod Result
