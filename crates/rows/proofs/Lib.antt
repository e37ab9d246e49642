pub mod EdgeEnds
pub mod Laws
