pub mod Kept
pub mod Sample
pub mod Laws
pub mod Families
pub mod KeptAt
