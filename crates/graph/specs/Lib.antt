pub mod Table
pub mod Keys
pub mod Paths
pub mod Shifted
pub mod Numbers
pub mod Shifts
