pub mod Packed
pub mod Displayed
pub mod Colours
