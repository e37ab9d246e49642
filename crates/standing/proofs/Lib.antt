pub mod Absorbs
pub mod Busy
pub mod Posting
pub mod Walk
