pub mod Listed
pub mod Closed
pub mod Near
