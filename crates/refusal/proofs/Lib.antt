pub mod Outcome
pub mod Exits
pub mod Range
pub mod Large
