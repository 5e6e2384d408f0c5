pub mod Outcome
pub mod Refusals
pub mod Words
pub mod Range
pub mod Large
pub mod Watch
