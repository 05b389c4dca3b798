pub mod Numbers
pub mod Views
pub mod Answers
pub mod Looks
pub mod Openings
pub mod Queries
pub mod Chain
pub mod ChainLaws
