pub mod Readings
pub mod Vectors
