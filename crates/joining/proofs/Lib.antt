pub mod Joint
pub mod Joined
