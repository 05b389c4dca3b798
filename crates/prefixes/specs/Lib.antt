pub mod Prefixes
pub mod Keys
pub mod Nodes
pub mod Walks
pub mod Ends
pub mod Shared
