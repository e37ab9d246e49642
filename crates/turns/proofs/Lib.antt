pub mod Asking
-- Laws for the proofs of the functions.
pub mod Deciding
pub mod Posting
pub mod Starting
pub mod Tallying
pub mod Counting
