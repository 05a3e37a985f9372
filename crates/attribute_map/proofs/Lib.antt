pub mod Grids
pub mod Packing
pub mod Painting
pub mod Sizes
pub mod Steps
