pub mod Strings
pub mod LinearLayers
pub mod Rijndael
pub mod Vectors
pub mod Masked
pub mod Experiment
