pub mod Looks
pub mod Walks
pub mod Nexts
pub mod Places
pub mod Seeks
