pub mod Log
pub mod Blocks
