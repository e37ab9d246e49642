-- Laws for the proofs of the functions.
pub mod Stepping
pub mod Turning
