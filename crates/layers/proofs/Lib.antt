pub mod Exchanges
pub mod State
pub mod KeyParts
