pub mod Colour
pub mod Entry
