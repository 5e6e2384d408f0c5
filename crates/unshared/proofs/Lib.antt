pub mod Tables
pub mod Held
pub mod ByKeys
pub mod ManyBlocks
pub mod Calls
pub mod Theorems
