pub mod Before
pub mod Chunks
pub mod Search
