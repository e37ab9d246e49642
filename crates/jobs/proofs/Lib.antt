pub mod Jobs
pub mod Answers
pub mod ReadAnswers
pub mod WriteAnswers
pub mod Listings
