pub mod After
pub mod FreshEdge
pub mod Keeps
pub mod OldFamily
pub mod Next
pub mod Write
pub mod Count
