pub mod Commands
pub mod Pads
pub mod Keeps
