pub mod Table
pub mod Lookup
pub mod RoundKeys
pub mod Operations
