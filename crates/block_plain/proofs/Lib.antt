pub mod Steps
pub mod Carried
