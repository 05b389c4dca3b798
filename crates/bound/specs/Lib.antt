pub mod Value
pub mod Within
