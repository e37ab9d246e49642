pub mod Walk
pub mod Packed
pub mod Taking
pub mod Busy
pub mod Posting
pub mod Receivers
pub mod Sample
