pub mod Table
mod Copy
mod Found
pub mod Rows
