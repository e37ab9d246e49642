pub mod PlacingKept
pub mod ToEnd
pub mod Begins
