pub mod Joint
pub mod Done
pub mod Joined
