pub mod Board
pub mod BoardLaws
pub mod EvenSum
pub mod EvenSumLaws
pub mod Counting
pub mod Exhausting
