pub mod Swap
pub mod Held
