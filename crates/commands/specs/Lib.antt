pub mod Command
pub mod Files
pub mod Good
pub mod Maps
pub mod Mask
pub mod Pads
pub mod Told
