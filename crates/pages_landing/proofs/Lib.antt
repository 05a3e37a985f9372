pub mod Calls
pub mod Examples
pub mod Planes
pub mod Waiting
