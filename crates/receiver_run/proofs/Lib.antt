pub mod Hears
pub mod Turns
