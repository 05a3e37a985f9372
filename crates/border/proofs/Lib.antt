pub mod Entries
pub mod Vectors
