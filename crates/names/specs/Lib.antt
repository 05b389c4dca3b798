pub mod Names
pub mod Numbers
pub mod Refusals
pub mod Rising
