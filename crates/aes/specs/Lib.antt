pub mod Sbox
pub mod Rounds
pub mod Figures
pub mod Experiment
pub mod Operations
pub mod Chain
