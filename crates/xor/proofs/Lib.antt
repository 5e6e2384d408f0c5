pub mod Xor
pub mod Sum
pub mod Basis
