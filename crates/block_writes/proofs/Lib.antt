pub mod Plays
pub mod Blocks
