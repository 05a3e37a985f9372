pub mod Shades
pub mod Texts
pub mod Examples
