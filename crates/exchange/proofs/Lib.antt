pub mod Exchange
pub mod Theorem
