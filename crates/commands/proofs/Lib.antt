pub mod Decoded
pub mod Finding
pub mod Sizes
pub mod Vectors
