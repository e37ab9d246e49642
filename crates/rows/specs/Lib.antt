pub mod Numbered
pub mod Many
pub mod EdgeEnds
pub mod Laws
pub mod Sizes
pub mod Chains
pub mod Cuts
