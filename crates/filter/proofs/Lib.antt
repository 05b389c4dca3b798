pub mod Pairs
pub mod Runs
pub mod Lawful
pub mod StrMeaning
pub mod SubsequenceMeaning
pub mod CombinatorMeanings
pub mod Verdicts
