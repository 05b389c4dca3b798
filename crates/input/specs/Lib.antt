pub mod Lines
pub mod Number
pub mod Asked
pub mod Inside
pub mod Kinds
pub mod Reading
pub mod Steps
