pub mod Regions
pub mod Passes
pub mod Laws
