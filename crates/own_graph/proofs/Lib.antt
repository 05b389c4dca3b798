pub mod Counted
pub mod Finding
pub mod Finished
pub mod OneCount
