pub mod Status
pub mod Put
pub mod Fresh
pub mod Front
