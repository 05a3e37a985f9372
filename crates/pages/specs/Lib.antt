pub mod Pixels
pub mod Passes
