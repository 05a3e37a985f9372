pub mod Cells
pub mod Eights
pub mod Pixels
