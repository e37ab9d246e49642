pub mod Stored
pub mod Found
pub mod Split
pub mod Turn
pub mod Family
pub mod OneCell
pub mod WholeLevel
