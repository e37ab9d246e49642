pub mod Lists
pub mod Order
pub mod Carrier
pub mod Patterns
pub mod Level
pub mod Joins
pub mod Child
pub mod Refined
