pub mod Climb
pub mod Linked
pub mod Points
pub mod Levels
pub mod Ways
pub mod Table
pub mod Samples
