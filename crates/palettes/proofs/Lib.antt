pub mod Choosing
pub mod Lengths
pub mod Vectors
