pub mod Marks
pub mod Opened
pub mod Groups
pub mod Held
