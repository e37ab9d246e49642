pub mod Progress
pub mod Listed
pub mod Held
pub mod Says
pub mod Key
