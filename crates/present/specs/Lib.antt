pub mod Present
pub mod Decrypt
pub mod Vectors
pub mod Masked
pub mod Opening
pub mod Experiment
