pub mod Pattern
pub mod Input
pub mod Layouts
