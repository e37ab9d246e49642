-- Laws for the proofs of the functions.
pub mod Bits
pub mod Knowing
pub mod Placing
