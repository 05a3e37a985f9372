pub mod Events
pub mod Texts
pub mod Steps
pub mod Merged
