pub mod Divided
pub mod Divisible
