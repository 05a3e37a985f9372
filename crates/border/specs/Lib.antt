pub mod Tile
pub mod Border
