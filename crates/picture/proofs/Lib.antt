pub mod Readings
pub mod Rows
pub mod Whole
pub mod Vectors
