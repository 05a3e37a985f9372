pub mod Carry
pub mod Write
pub mod Screen
