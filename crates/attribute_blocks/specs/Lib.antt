pub mod Blk
