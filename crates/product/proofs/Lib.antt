pub mod Bilinear
pub mod Shape
pub mod Counts
pub mod Coupling
pub mod Runs
pub mod ByShare
pub mod Places
