pub mod Xor
pub mod Sum
