pub mod Filter
pub mod Tables
pub mod Meanings
pub mod Theorems
