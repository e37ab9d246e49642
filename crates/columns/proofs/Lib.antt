pub mod Owning
pub mod Placing
