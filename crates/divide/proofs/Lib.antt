pub mod Laid
pub mod Edged
pub mod Stores
pub mod Dividing
pub mod Whole
pub mod Answers
