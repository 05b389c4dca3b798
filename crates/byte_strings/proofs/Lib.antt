pub mod Library
pub mod Orders
pub mod Fronts
pub mod WithByte
pub mod OrderLaws
