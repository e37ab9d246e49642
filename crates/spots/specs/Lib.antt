pub mod Spots
pub mod Noted
