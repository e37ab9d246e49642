pub mod Loops
pub mod Usable
pub mod Decide
pub mod Tally
pub mod Post
pub mod Heads
pub mod Start
pub mod Step
