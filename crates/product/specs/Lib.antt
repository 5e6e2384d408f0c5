pub mod Product
pub mod ByShare
pub mod Counts
pub mod Makes
