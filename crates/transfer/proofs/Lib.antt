pub mod Pendings
pub mod Pages
pub mod Parts
pub mod Vectors
