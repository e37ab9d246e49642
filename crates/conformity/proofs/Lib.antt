pub mod Meets
pub mod Start
pub mod Accepted
