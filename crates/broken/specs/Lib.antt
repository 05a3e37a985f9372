pub mod Broken
pub mod Told
