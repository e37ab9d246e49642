pub mod Spreading
pub mod Steps
pub mod Resting
pub mod Turns
pub mod Ended
