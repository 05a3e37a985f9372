pub mod Graymap
pub mod Lent
