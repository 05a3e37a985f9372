pub mod Bytes
pub mod Polls
pub mod Strides
pub mod Waits
